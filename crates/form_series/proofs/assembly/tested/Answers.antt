use Rattle.std.proofs.Common.{ℕ, List, Option, Some, None, sym, ◌∙◌}
use Rattle.std.proofs.Math.Bool.{true≢false}
use Rattle.series_check.specs.Cuts.{problem_of}
use Rattle.series_model.specs.Series.{SeriesProblem}
use Rattle.series_outcome.specs.declared.outcome.SeriesOutcome.{SeriesOutcome}
use Rattle.series_outcome.specs.Assemblies.{IsNoWorse, KeepsSeries}
use Rattle.series_outcome.specs.Searches.{IsAsGoodAs, value_known}
use Rattle.series_outcome.proofs.KnownLaws.{no_worse-trans}
use Rattle.form_series.proofs.assembly.tested.Goals as goal
use Rattle.form_series.proofs.assembly.tested.Goals.{then-is_decided-via-then-is_decided, then-is_decided-via-else-is_decided+then-not-is_enough}

pub returns-then-is_decided-clause-decided : goal.returns-then-is_decided-clause-decided
returns-then-is_decided-clause-decided c large =
    elim c.then-is_decided.branch [
      | then-is_decided-via-then-is_decided w ↦ c.is_decided.ensures w.if-is_decided.true
      | then-is_decided-via-else-is_decided+then-not-is_enough w ↦ absurd (true≢false (sym (w.is_enough.ensures large) ∙ w.if-not-is_enough.true))
    ]

-- an outcome that is no worse than what is known of some sets keeps them
keeps_known : (Q : SeriesProblem) (sets : Option (List (List ℕ))) (B : Option ℕ) (outcome : SeriesOutcome) → IsAsGoodAs Q sets B → IsNoWorse Q B outcome → KeepsSeries Q sets outcome
keeps_known Q None B outcome good keeps = tt
keeps_known Q (Some sets) B outcome good keeps = λ V series value. no_worse-trans Q (Some V) B outcome (good V series value) keeps

pub returns-clause-keeps : goal.returns-clause-keeps
returns-clause-keeps c =
    keeps_known (problem_of c.args.setting.now) c.args.forms (value_known c.known_series-known.result) c.in_ok-series.series.outcome c.known_series-known.ensures.no_worse c.in_ok-series.ensures.keeps
