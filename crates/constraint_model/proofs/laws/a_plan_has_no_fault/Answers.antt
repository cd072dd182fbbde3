use Rattle.constraint_model.proofs.Deciding.{plan_or_fault, no_fault_is_plan, plan_has_no_fault}
use Rattle.constraint_model.proofs.laws.a_plan_has_no_fault.Goals as goal

pub returns-clause-one_stands : goal.returns-clause-one_stands
returns-clause-one_stands c = plan_or_fault

pub returns-clause-plan : goal.returns-clause-plan
returns-clause-plan c = no_fault_is_plan

pub returns-clause-faultless : goal.returns-clause-faultless
returns-clause-faultless c = plan_has_no_fault
