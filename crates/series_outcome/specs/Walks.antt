-- A walk through a series tree that may have spent its node budget.
use Rattle.std.specs.Prelude.{ℕ, suc, ◌≤◌, ◌<◌, List, ◌∷◌, length, drop, Option, Some, None, IsTrue}
use Rattle.certificate_model.specs.Counting.{is_impossible}
use Rattle.series_model.specs.Series.{SeriesProblem}
use Rattle.series_model.specs.SeriesPaths.{SeriesPath, form_problem, form_path}
use Rattle.series_model.specs.SeriesTrees.{Certificate, AreTrees}
use Rattle.series_outcome.specs.declared.counted.FormRow.{FormRow}
use Rattle.series_outcome.specs.Spending.{IsPossible, AreSpentNodes}

-- the row of a form that is impossible by counting, or none is
abbrev pub IsCounted : SeriesProblem → SeriesPath → Option FormRow → Type 0
IsCounted Q p (Some which) = (which.form < Q.forms) × (which.row ≤ 192)
    × IsTrue (is_impossible (form_problem Q) (form_path Q p which.form) which.row)
IsCounted Q p None = IsPossible Q p

-- the subtree at place `at` ends before place `next`, and all its nodes are as in a spent tree
pub record SpendsTo (Q : SeriesProblem) (T : Certificate) (at : ℕ) (p : SeriesPath)
    (next : ℕ) : Type 0 where
  pub on : at < next
  pub within : next ≤ length T.nodes
  pub makes : (wait : ℕ) → AreTrees (suc wait) (drop at T.nodes)
      → AreTrees wait (drop next T.nodes)
  pub spent : (paths : List SeriesPath) → AreSpentNodes Q (drop next T.nodes) paths
      → AreSpentNodes Q (drop at T.nodes) (p ∷ paths)

abbrev pub IsSpending : SeriesProblem → Certificate → ℕ → SeriesPath → Option ℕ → Type 0
IsSpending Q T at p (Some next) = SpendsTo Q T at p next
IsSpending Q T at p None = Unit {0}
