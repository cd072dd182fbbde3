-- What a tree shows with a form or none.
use Rattle.std.specs.Prelude.{ℕ, Option}
use Rattle.bank_tables.specs.Items.{Set}
use Rattle.form_model.specs.Problem.{Problem}
use Rattle.certificate_model.specs.ProofTrees.{ProofTree}
use Rattle.branch_bound.specs.declared.outcome.Outcome.{Outcome}
use Rattle.branch_bound.specs.Assemblies.{IsShown, IsFirmOutcome, IsNoWorseThan}
use Rattle.branch_bound.specs.Comparing.{IsAsGood}

-- with the form X or none the tree shows the outcome; its form is firm, and as good as X
pub record Shows (P : Problem) (X : Option Set) (T : ProofTree) (budget : ℕ) (outcome : Outcome) : Type 0 where
  pub shown : IsShown P T budget outcome
  pub firm : IsFirmOutcome P outcome
  pub as_good : (Z : Option Set) → IsAsGood P Z X → IsNoWorseThan P Z outcome
