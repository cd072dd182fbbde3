-- What the faults of drafts imply, as the public laws state it.
use Rattle.std.specs.Prelude.{◌≡◌, ◌⊎◌}
use Rattle.bank_tables.specs.Tables.{Tables}
use Rattle.form_model.specs.Plan.{Plan}
use Rattle.form_model.specs.Validity.{IsPlanFor}
use Rattle.constraint_model.specs.declared.spec_fault.SpecFault.{SpecFault}
use Rattle.constraint_model.specs.Faults.{IsSpecFault}

-- a draft is a plan for a bank, or it has a first fault
abbrev pub PlanOrFault : Type 0
PlanOrFault =
    (b : Tables) (plan : Plan) → IsPlanFor b plan ⊎ ((fault : SpecFault) × IsSpecFault b plan fault)

-- a draft without a fault is a plan
abbrev pub NoFaultIsPlan : Type 0
NoFaultIsPlan =
    (b : Tables) (plan : Plan)
    → ((fault : SpecFault) → IsSpecFault b plan fault → ⊥) → IsPlanFor b plan

-- a plan has no fault
abbrev pub PlanHasNoFault : Type 0
PlanHasNoFault =
    (b : Tables) (plan : Plan) (fault : SpecFault)
    → IsPlanFor b plan → IsSpecFault b plan fault → ⊥

-- a draft has at most one first fault
abbrev pub OneFault : Type 0
OneFault =
    (b : Tables) (plan : Plan) (f g : SpecFault)
    → IsSpecFault b plan f → IsSpecFault b plan g → f ≡ g
