-- A walk through a tree that may have spent its node budget.
use Rattle.std.specs.Prelude.{ℕ, suc, ◌≤◌, ◌<◌, List, ◌∷◌, length, drop, Option, Some, None}
use Rattle.bank_tables.specs.Items.{Set}
use Rattle.form_model.specs.Problem.{Problem}
use Rattle.certificate_model.specs.Paths.{Path}
use Rattle.certificate_model.specs.ProofTrees.{ProofTree, AreTrees}
use Rattle.certificate_model.specs.Spending.{PlainBoundExceeds, ExceedsStart, AreSpentNodes}

-- where there is a form, the plain bound exceeds it
abbrev pub ExceedsForm : Problem → Path → Option Set → Type 0
ExceedsForm P p None = Unit {0}
ExceedsForm P p (Some X) = PlainBoundExceeds P p X

-- X is the start of P if that is a form, and none otherwise
pub record IsStartForm (P : Problem) (X : Option Set) : Type 0 where
  pub to_form : (p : Path) → ExceedsStart P p P.start → ExceedsForm P p X
  pub to_start : (p : Path) → ExceedsForm P p X → ExceedsStart P p P.start

-- the subtree at place `at` ends before place `next`, and all its nodes are as in a spent tree
pub record SpendsTo (P : Problem) (T : ProofTree) (at : ℕ) (p : Path) (next : ℕ) : Type 0 where
  pub on : at < next
  pub within : next ≤ length T.nodes
  pub makes : (wait : ℕ) → AreTrees (suc wait) (drop at T.nodes) → AreTrees wait (drop next T.nodes)
  pub whole : (paths : List Path) → AreSpentNodes P T (drop next T.nodes) paths → AreSpentNodes P T (drop at T.nodes) (p ∷ paths)
  pub rest : (paths : List Path) → AreSpentNodes P T (drop at T.nodes) (p ∷ paths) → AreSpentNodes P T (drop next T.nodes) paths

-- so it is, or a node is not as in a spent tree
abbrev pub IsSpending : Problem → ProofTree → ℕ → Path → Option ℕ → Type 0
IsSpending P T at p (Some next) = SpendsTo P T at p next
IsSpending P T at p None = (paths : List Path) → AreSpentNodes P T (drop at T.nodes) (p ∷ paths) → ⊥
