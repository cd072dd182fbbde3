-- What an assembly of the whole problem shows where it found no form.
use Rattle.std.proofs.Common.{◌≡◌, ℕ, List, Option, Some, None, refl, sym, subst}
use Rattle.std.specs.Option.{option_map}
use Rattle.std.proofs.Math.Bool.{true≢false}
use Rattle.bank_tables.specs.Items.{Set, has}
use Rattle.bank_tables.specs.Tables.{Tables}
use Rattle.form_model.specs.Plan.{Plan}
use Rattle.form_model.specs.Problem.{Problem, whole}
use Rattle.form_model.specs.Forms.{Form, Meets}
use Rattle.certificate_model.specs.ProofTrees.{ProofTree}
use Rattle.form_model.specs.Validity.{IsPlanFor, IsWhole}
use Rattle.proof_tree.specs.Shape.{IsTree}
use Rattle.branch_bound.specs.declared.outcome.Outcome.{Outcome}
use Rattle.branch_bound.specs.declared.outcome.Outcome.TheVariants.{NoneFound}
use Rattle.branch_bound.specs.Assemblies.{IsAssembly, IsNoWorseThan}
use Rattle.exam_program.specs.Bases.{IsWholeAssembly, ShowsNoBase}

-- what meets the plan is a form of the whole problem
pub whole_form : (b : Tables) (plan : Plan) (P : Problem) (X : Set) → IsWhole b plan P → Meets b plan X → Form P X
whole_form b plan P X is meets =
    let form : Form (whole b plan is.theta) X = record { meets = meets; holds_given = λ i h. absurd (true≢false (sym h)); holds_no_barred = λ i h. absurd (true≢false (sym h)) } in
    subst (λ (Q : Problem). Form Q X) (sym is.is) form

-- no form was found, so there was no hint that is one
pub shows_no_base : (b : Tables) (plan : Plan) (P : Problem) (T : ProofTree) (outcome : Outcome) → IsPlanFor b plan → IsWholeAssembly b plan P T outcome → outcome ≡ NoneFound → IsTree T → ShowsNoBase b plan T
shows_no_base b plan P T outcome valid assembled e tree =
    let is : IsAssembly P (option_map has plan.base) plan.base_budget T NoneFound = subst (λ (o : Outcome). IsAssembly P (option_map has plan.base) plan.base_budget T o) e assembled.assembly in
    record { no_base = none plan.base refl is.hint; problem = P; whole = assembled.whole; undecided = is.shown; printable = record { is_tree = tree; pruned = is.pruned } }
  where
    none : (o : Option (List ℕ)) → plan.base ≡ o → IsNoWorseThan P (option_map has o) NoneFound → plan.base ≡ None
    none None same hint = same
    none (Some words) same hint = absurd (hint (whole_form b plan P (has words) assembled.whole (valid.base_meets words same)))
