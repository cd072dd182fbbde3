use Rattle.std.proofs.Common.{sym, ◌∙◌, arith}
use Rattle.std.proofs.Math.Bool.{true≢false}
use Rattle.series_model.specs.Series.{forms_of}
use Rattle.series_check.specs.Cuts.{problem_of}
use Rattle.series_outcome.specs.Searches.{value_known}
use Rattle.series_outcome.proofs.KnownLaws.{as_good-refl, settled_no_series, settled_value, settled_by}
use Rattle.series_outcome.proofs.known.better.Goals as goal

pub returns-then-not-is_series-clause-no_worse : goal.returns-then-not-is_series-clause-no_worse
returns-then-not-is_series-clause-no_worse c = as_good-refl (value_known c.args.kept)

pub returns-then-not-is_series-clause-settled : goal.returns-then-not-is_series-clause-settled
returns-then-not-is_series-clause-settled c =
    settled_no_series (problem_of c.args.setting.now) (forms_of c.args.sets.now) (value_known c.args.kept) (λ series. true≢false (sym (c.is_series.ensures.1 series) ∙ c.if-not-is_series.true))

pub returns-then-not-exceeds-clause-no_worse : goal.returns-then-not-exceeds-clause-no_worse
returns-then-not-exceeds-clause-no_worse c = as_good-refl (value_known c.args.kept)

pub returns-then-not-exceeds-clause-settled : goal.returns-then-not-exceeds-clause-settled
returns-then-not-exceeds-clause-settled c =
    settled_by (problem_of c.args.setting.now) (forms_of c.args.sets.now) (value_known c.args.kept) c.value-value.result c.value-value.ensures (c.exceeds.ensures.not_greater c.if-not-exceeds.true)

pub returns-clause-no_worse : goal.returns-clause-no_worse
returns-clause-no_worse c = c.exceeds.ensures.greater c.if-not-exceeds.false

pub returns-clause-settled : goal.returns-clause-settled
returns-clause-settled c =
    settled_value (problem_of c.args.setting.now) (forms_of c.args.sets.now) c.value-value.result c.value-value.result c.value-value.ensures (omega arith)
