-- A walk through a subtree of a proof tree.
use Rattle.std.specs.Prelude.{ℕ, suc, ◌+◌, ◌-◌, ◌≤◌, ◌<◌, List, ◌∷◌, length, drop, Option, Result, Ok, Err}
use Rattle.bank_tables.specs.Items.{Set}
use Rattle.certificate_model.specs.declared.verdict.Verdict.{Verdict}
use Rattle.certificate_model.specs.declared.verdict.Verdict.TheVariants.{Bad}
use Rattle.form_model.specs.Problem.{Problem}
use Rattle.certificate_model.specs.Paths.{Path}
use Rattle.certificate_model.specs.ProofTrees.{ProofTree, AreTrees}
use Rattle.certificate_model.specs.Verdicts.{GivesFrom}
use Rattle.certificate_check.specs.declared.walk.Walked.{Walked}
use Rattle.certificate_check.specs.declared.walk.Unsound.{Unsound}

-- the subtree at place `at` ends before place `next` with `after` Open leaves so far, and gives
-- what the rest gives
pub record Passes (P : Problem) (X : Option Set) (T : ProofTree) (at met : ℕ) (p : Path) (next after : ℕ) : Type 0 where
  pub on : at < next
  pub within : next ≤ length T.nodes
  pub makes : (wait : ℕ) → AreTrees (suc wait) (drop at T.nodes) → AreTrees wait (drop next T.nodes)
  pub few : after ≤ met + (next - at)
  pub gives : (paths : List Path) (verdict : Verdict) → GivesFrom P X T next after (drop next T.nodes) paths verdict → GivesFrom P X T at met (drop at T.nodes) (p ∷ paths) verdict

-- the walk goes through the subtree at place `at`, or ends at its first unsound node
abbrev pub IsWalk : Problem → Option Set → ProofTree → ℕ → ℕ → Path → Result Walked Unsound → Type 0
IsWalk P X T at met p (Ok walked) = Passes P X T at met p walked.next walked.open_leaves
IsWalk P X T at met p (Err unsound) = (paths : List Path) → GivesFrom P X T at met (drop at T.nodes) (p ∷ paths) (Bad unsound.node unsound.reason)
