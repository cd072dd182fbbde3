-- What the command `series` answers for a bank, a plan, a number of forms and weights.
use Rattle.std.specs.Prelude.{◌≡◌, ℕ, ◌<◌, List, length, get_or, Bool, Option, None}
use Rattle.bank_tables.specs.Tables.{Tables}
use Rattle.form_model.specs.Plan.{Plan}
use Rattle.series_model.specs.declared.verdict.SeriesVerdict.TheVariants as verdict
use Rattle.series_model.specs.Series.{SeriesProblem, IsValue, HasNoSeries, forms_of}
use Rattle.series_model.specs.SeriesTrees.{Certificate}
use Rattle.series_model.specs.SeriesVerdicts.{IsSeriesVerdict}
use Rattle.series_tree.specs.Shape.{IsTree}
use Rattle.series_outcome.specs.declared.outcome.SeriesOutcome.TheVariants.{Found}
use Rattle.series_outcome.specs.Assemblies.{IsShown, IsTrueOutcome, IsUndecided}
use Rattle.form_series.specs.declared.bound.SeriesBound.{SeriesBound}
use Rattle.form_series.specs.Orders.{IsInOrder}
use Rattle.form_series.specs.SeriesBounds.{IsBoundOf}
use Rattle.form_lines.specs.declared.answer.SeriesEnd.{SeriesEnd}
use Rattle.form_lines.specs.declared.answer.SeriesEnd.TheVariants.{Weights, NoSeries, NoneFound, Memory}
use Rattle.form_lines.specs.Texts.{series_text}

-- each point of the grid has a weight, and one is above 0
abbrev pub AreWeightsFor : Tables → List ℕ → Type 0
AreWeightsFor b weights = (length weights ≡ b.grid) × ((g : ℕ) × (0 < get_or weights g 0))

-- what the series is assembled for
abbrev pub series_problem : Tables → Plan → List ℕ → ℕ → SeriesProblem
series_problem b plan weights forms =
    record { bank = b; plan = plan; weights = weights; forms = forms }

-- the assembly found these forms within the base budget: they meet the plan, no item is in two of
-- them, they are in ascending order of their lowest item, and this is their value. The tree shows
-- the mark: proved, no series has a greater value, else the tree spends the base budget. Beside a
-- series that is not proved best there may be a number that the value of no series exceeds
pub record FindsSeries (Q : SeriesProblem) (sets : List (List ℕ)) (value : ℕ) (proved : Bool)
    (T : Certificate) (bound : Option SeriesBound) : Type 0 where
  pub is_true : IsTrueOutcome Q (Found sets proved)
  pub order : IsInOrder Q (Found sets proved)
  pub value_is : IsValue Q (forms_of sets) value
  pub shown : IsShown Q T Q.plan.base_budget (Found sets proved)
  pub bounded : IsBoundOf Q (Found sets proved) bound
  pub is_tree : IsTree T

-- the text is that of a series that the assembly found
pub record TellsSeries (Q : SeriesProblem) (text : List ℕ) : Type 0 where
  pub sets : List (List ℕ)
  pub value : ℕ
  pub proved : Bool
  pub tree : Certificate
  pub bound : Option SeriesBound
  pub finds : FindsSeries Q sets value proved tree bound
  pub is : text ≡ series_text Q sets value proved tree bound

-- there is no series, and the tree shows it
pub record ShowsNoSeries (Q : SeriesProblem) (T : Certificate) : Type 0 where
  pub none : HasNoSeries Q
  pub shown : IsSeriesVerdict Q None None T verdict.NoSeries
  pub is_tree : IsTree T

-- the tree spends the base budget without a series
pub record ShowsNoneFound (Q : SeriesProblem) (T : Certificate) : Type 0 where
  pub undecided : IsUndecided Q None T Q.plan.base_budget
  pub is_tree : IsTree T

-- why there is no series to print
abbrev pub IsEnd : Tables → Plan → List ℕ → ℕ → SeriesEnd → Type 0
IsEnd b plan weights forms Weights = AreWeightsFor b weights → ⊥
IsEnd b plan weights forms (NoSeries T) =
    AreWeightsFor b weights × ShowsNoSeries (series_problem b plan weights forms) T
IsEnd b plan weights forms (NoneFound budget T) = AreWeightsFor b weights
    × (budget ≡ plan.base_budget) × ShowsNoneFound (series_problem b plan weights forms) T
IsEnd b plan weights forms Memory = Unit {0}
