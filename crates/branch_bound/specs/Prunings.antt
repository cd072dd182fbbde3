-- A walk through a tree that may be pruned by counting.
use Rattle.std.specs.Prelude.{◌≡◌, ℕ, suc, ◌≤◌, ◌<◌, List, ◌∷◌, length, drop, Option, Some, None}
use Rattle.certificate_model.specs.declared.node.Node.{Node}
use Rattle.certificate_model.specs.declared.node.Node.TheVariants.{Count}
use Rattle.form_model.specs.Problem.{Problem}
use Rattle.certificate_model.specs.Paths.{Path}
use Rattle.certificate_model.specs.ProofTrees.{ProofTree, AreTrees}
use Rattle.certificate_model.specs.Pruning.{ArePruned}

-- the node is the Count leaf of the row, if there is a row
abbrev pub IsCountOf : Option ℕ → Node → Type 0
IsCountOf (Some r) node = node ≡ Count r
IsCountOf None node = Unit {0}

-- the subtree at place `at` ends before place `next`, and no path of it goes on past a row that is
-- impossible by counting
pub record PrunesTo (P : Problem) (T : ProofTree) (at : ℕ) (p : Path) (next : ℕ) : Type 0 where
  pub on : at < next
  pub within : next ≤ length T.nodes
  pub makes : (wait : ℕ) → AreTrees (suc wait) (drop at T.nodes) → AreTrees wait (drop next T.nodes)
  pub pruned : (paths : List Path) → ArePruned P T (drop next T.nodes) paths → ArePruned P T (drop at T.nodes) (p ∷ paths)

abbrev pub IsPruning : Problem → ProofTree → ℕ → Path → Option ℕ → Type 0
IsPruning P T at p (Some next) = PrunesTo P T at p next
IsPruning P T at p None = Unit {0}
