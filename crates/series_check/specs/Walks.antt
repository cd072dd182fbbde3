-- A walk through a subtree of a series tree.
use Rattle.std.specs.Prelude.{◌≡◌, ℕ, suc, ◌+◌, ◌-◌, ◌≤◌, ◌<◌, List, [], ◌∷◌, length, drop, Option, Some, None, Result, Ok, Err}
use Rattle.series_model.specs.declared.node.SeriesNode.{SeriesNode}
use Rattle.series_model.specs.declared.verdict.SeriesVerdict.{SeriesVerdict}
use Rattle.series_model.specs.declared.verdict.SeriesVerdict.TheVariants.{Bad}
use Rattle.series_model.specs.Series.{SeriesProblem}
use Rattle.series_model.specs.SeriesPaths.{SeriesPath}
use Rattle.series_model.specs.SeriesTrees.{Certificate, children, AreTrees}
use Rattle.series_model.specs.SeriesVerdicts.{below, GivesFrom}
use Rattle.series_check.specs.declared.cut.SeriesCut.{SeriesCut}
use Rattle.series_check.specs.declared.walk.Walked.{Walked}
use Rattle.series_check.specs.Cuts.{path_of}

-- the paths below a node: two where it is a branch
abbrev pub AreBelow : SeriesProblem → SeriesPath → SeriesNode → Option (SeriesCut × SeriesCut) → Type 0
AreBelow Q p node (Some cuts) = (below Q p node ≡ path_of cuts.0 ∷ path_of cuts.1 ∷ []) × (children node ≡ 2)
AreBelow Q p node None = (below Q p node ≡ []) × (children node ≡ 0)

-- the subtree at place `at` ends before place `next` with `after` Open leaves so far, and gives
-- what the rest gives
pub record Passes (Q : SeriesProblem) (U : Option ℕ) (T : Certificate) (at met : ℕ) (p : SeriesPath) (next after : ℕ) : Type 0 where
  pub on : at < next
  pub within : next ≤ length T.nodes
  pub makes : (wait : ℕ) → AreTrees (suc wait) (drop at T.nodes) → AreTrees wait (drop next T.nodes)
  pub few : after ≤ met + (next - at)
  pub gives : (paths : List SeriesPath) (verdict : SeriesVerdict) → GivesFrom Q U T next after (drop next T.nodes) paths verdict → GivesFrom Q U T at met (drop at T.nodes) (p ∷ paths) verdict

-- the walk goes through the subtree at place `at`, or ends at its first unsound node
abbrev pub IsWalk : SeriesProblem → Option ℕ → Certificate → ℕ → ℕ → SeriesPath → Result Walked ℕ → Type 0
IsWalk Q U T at met p (Ok walked) = Passes Q U T at met p walked.next walked.open_leaves
IsWalk Q U T at met p (Err unsound) = (paths : List SeriesPath) → GivesFrom Q U T at met (drop at T.nodes) (p ∷ paths) (Bad unsound)
