-- What the command `series` answers.
use Rattle.std.specs.Prelude.{◌≡◌, ℕ, List, Some}
use Rattle.bank_tables.specs.Tables.{Tables}
use Rattle.command_line.specs.Commands.{Series, command_of}
use Rattle.command_line.specs.Weights.{weights_of}
use Rattle.form_lines.specs.Answers.{AreWeightsFor, series_problem, TellsSeries, ShowsNoSeries, ShowsNoneFound, IsEnd}
use Rattle.form_lines.specs.declared.answer.SeriesEnd.TheVariants as ends
use Rattle.form_lines.specs.Texts.{weights_refused, no_series, no_series_within}
use Rattle.form_model.specs.Plan.{Plan}
use Rattle.series_model.specs.SeriesTrees.{Certificate}
use Rattle.exam_program.specs.declared.halt.Halt.{Halt}
use Rattle.exam_program.specs.declared.halt.Halt.TheVariants.{Weights, NoSeries, NoSeriesFound, Memory}
use Rattle.exam_program.specs.Halts.{Reads}
use Rattle.exam_program.specs.Outside.{Outside}

-- the words ask for a series of so many forms by these weights, and its files are read
pub record IsSeriesOf (words : List (List ℕ)) (o : Outside) (b : Tables) (p : Plan) (forms : ℕ)
    (weights : List ℕ) : Type 0 where
  pub bank : List ℕ
  pub plan : List ℕ
  pub word : List ℕ
  pub asked : command_of words ≡ Some (Series bank plan forms word)
  pub weights_are : weights ≡ weights_of word
  pub reads : Reads o.named o.content bank plan b p

-- each point of the grid has a weight, one is above 0, and the text is that of a series
abbrev pub TellsSeriesOf : Tables → Plan → ℕ → List ℕ → List ℕ → Type 0
TellsSeriesOf b p forms weights text =
    AreWeightsFor b weights × TellsSeries (series_problem b p weights forms) text

-- the status and the text for a bank, a plan, a number of forms and weights
pub data AnswersSeries (b : Tables) (p : Plan) (forms : ℕ)
    (weights : List ℕ) : ℕ → List ℕ → Type 0 where
  -- a series was found
  series_told : (text : List ℕ) → TellsSeriesOf b p forms weights text
      → AnswersSeries b p forms weights 0 text
  -- the weights are another number than the grid's points, or all are 0
  weights_not_taken : (AreWeightsFor b weights → ⊥)
      → AnswersSeries b p forms weights 16 weights_refused
  -- there is no series
  without_series : (T : Certificate) → AreWeightsFor b weights
      → ShowsNoSeries (series_problem b p weights forms) T
      → AnswersSeries b p forms weights 17 (no_series T)
  -- the base budget was spent with no series found
  series_not_found : (T : Certificate) → AreWeightsFor b weights
      → ShowsNoneFound (series_problem b p weights forms) T
      → AnswersSeries b p forms weights 18 (no_series_within p.base_budget T)

-- why there is no series to print, or that memory ran out
abbrev pub HaltsAtSeries : Tables → Plan → ℕ → List ℕ → Halt → Type 0
HaltsAtSeries b p forms weights Weights = IsEnd b p weights forms ends.Weights
HaltsAtSeries b p forms weights (NoSeries T) = IsEnd b p weights forms (ends.NoSeries T)
HaltsAtSeries b p forms weights (NoSeriesFound budget T) =
    IsEnd b p weights forms (ends.NoneFound budget T)
HaltsAtSeries b p forms weights Memory = Unit {0}
HaltsAtSeries b p forms weights halt = ⊥
