-- How much better a series may be than one that is not proved best.
use Rattle.std.specs.Prelude.{ℕ, false, List, Option, Some, None}
use Rattle.series_model.specs.declared.verdict.SeriesVerdict.TheVariants.{Optimal}
use Rattle.series_model.specs.Series.{SeriesProblem, NoneAbove}
use Rattle.series_model.specs.SeriesVerdicts.{IsSeriesVerdict}
use Rattle.series_outcome.specs.declared.outcome.SeriesOutcome.{SeriesOutcome}
use Rattle.series_outcome.specs.declared.outcome.SeriesOutcome.TheVariants.{Found}
use Rattle.form_series.specs.declared.bound.SeriesBound.{SeriesBound}

-- no series has a value above the number, and the tree shows it
pub record BoundsSeries (Q : SeriesProblem) (forms : List (List ℕ))
    (bound : SeriesBound) : Type 0 where
  pub at_most : NoneAbove Q bound.value
  pub shown : IsSeriesVerdict Q (Some forms) (Some bound.value) bound.tree Optimal

-- a bound stands beside a series that is not proved best, and beside nothing else
abbrev pub IsBoundOf : SeriesProblem → SeriesOutcome → Option SeriesBound → Type 0
IsBoundOf Q outcome None = Unit {0}
IsBoundOf Q (Found forms false) (Some bound) = BoundsSeries Q forms bound
IsBoundOf Q outcome (Some bound) = ⊥
