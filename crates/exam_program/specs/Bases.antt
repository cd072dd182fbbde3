-- The assembly of the whole problem, and the base form.
use Rattle.std.specs.Prelude.{◌≡◌, ℕ, List, Bool, Some, None}
use Rattle.std.specs.Option.{option_map}
use Rattle.bank_tables.specs.Items.{has}
use Rattle.bank_tables.specs.Tables.{Tables}
use Rattle.certificate_model.specs.declared.verdict.Verdict.TheVariants.{NoForm}
use Rattle.form_model.specs.Plan.{Plan}
use Rattle.form_model.specs.Problem.{Problem}
use Rattle.form_model.specs.Forms.{Firm, HasNoForm}
use Rattle.certificate_model.specs.ProofTrees.{ProofTree}
use Rattle.certificate_model.specs.Pruning.{IsPruned}
use Rattle.form_model.specs.Validity.{IsWhole, IsWellMade}
use Rattle.certificate_model.specs.Verdicts.{IsVerdict}
use Rattle.proof_tree.specs.Shape.{IsTree}
use Rattle.branch_bound.specs.declared.outcome.Outcome.{Outcome}
use Rattle.branch_bound.specs.declared.outcome.Outcome.TheVariants.{Found}
use Rattle.branch_bound.specs.Assemblies.{IsAssembly, IsShown, IsUndecided, IsNoWorseThan, IsTrueOutcome}
use Rattle.exam_program.specs.Texts.{form_text}

-- the whole problem was assembled within the base budget, with the plan's base, if there is one, as
-- the hint
pub record IsWholeAssembly (b : Tables) (plan : Plan) (P : Problem) (T : ProofTree)
    (outcome : Outcome) : Type 0 where
  pub whole : IsWhole b plan P
  pub well_made : IsWellMade P
  pub assembly : IsAssembly P (option_map has plan.base) plan.base_budget T outcome
  pub is_true : IsTrueOutcome P outcome

-- a tree to print: it has a spelling, and no path goes on past a row that is impossible by counting
pub record IsPrintable (P : Problem) (T : ProofTree) : Type 0 where
  pub is_tree : IsTree T
  pub pruned : IsPruned P T

-- that assembly found this form: no exchange of one item betters it, it is no worse than the plan's
-- base, and the tree shows its mark: proved, it is best over all sets of items, else the tree
-- spends the base budget
pub record FindsForm (b : Tables) (plan : Plan) (P : Problem) (form : List ℕ) (proved : Bool)
    (T : ProofTree) : Type 0 where
  pub whole : IsWhole b plan P
  pub firm : Firm P (has form)
  pub shown : IsShown P T plan.base_budget (Found form proved)
  pub hint : IsNoWorseThan P (option_map has plan.base) (Found form proved)
  pub printable : IsPrintable P T

-- the text is that of a form that the assembly found
pub record TellsForm (b : Tables) (plan : Plan) (text : List ℕ) : Type 0 where
  pub problem : Problem
  pub form : List ℕ
  pub proved : Bool
  pub tree : ProofTree
  pub finds : FindsForm b plan problem form proved tree
  pub is : text ≡ form_text problem form proved tree

-- no set of items is a form of the whole problem, which the tree shows
pub record ShowsNoForm (b : Tables) (plan : Plan) (T : ProofTree) : Type 0 where
  pub problem : Problem
  pub whole : IsWhole b plan problem
  pub none : HasNoForm problem
  pub shown : IsVerdict problem None T NoForm
  pub printable : IsPrintable problem T

-- the plan has no base, and the tree spends the base budget without a form of the whole problem
pub record ShowsNoBase (b : Tables) (plan : Plan) (T : ProofTree) : Type 0 where
  pub no_base : plan.base ≡ None
  pub problem : Problem
  pub whole : IsWhole b plan problem
  pub undecided : IsUndecided problem None T plan.base_budget
  pub printable : IsPrintable problem T

-- the base form is the plan's, or, where it has none, one that the assembly of the whole problem
-- finds
pub data IsBaseForm (b : Tables) (plan : Plan) : List ℕ → Type 0 where
  of_plan : (form : List ℕ) → plan.base ≡ Some form → IsBaseForm b plan form
  assembled : (P : Problem) (form : List ℕ) (proved : Bool) (T : ProofTree) → plan.base ≡ None
      → FindsForm b plan P form proved T → IsBaseForm b plan form
