-- The verdict of a walk.
use Rattle.std.specs.Prelude.{ℕ, [], ◌∷◌, Option}
use Rattle.series_model.specs.declared.verdict.SeriesVerdict.{SeriesVerdict}
use Rattle.series_model.specs.Series.{SeriesProblem}
use Rattle.series_model.specs.SeriesPaths.{root}
use Rattle.series_model.specs.SeriesTrees.{Certificate}
use Rattle.series_model.specs.SeriesVerdicts.{GivesFrom}

-- the verdict on the nodes of a whole tree
abbrev pub IsJudged : SeriesProblem → Option ℕ → Certificate → SeriesVerdict → Type 0
IsJudged Q U T verdict = GivesFrom Q U T 0 0 T.nodes (root ∷ []) verdict
