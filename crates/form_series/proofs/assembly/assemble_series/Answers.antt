use Rattle.series_model.proofs.OneFormLaws.{one_form_is_best}
use Rattle.series_outcome.proofs.OutcomeLaws.{shown_is_true, best_form}
use Rattle.form_series.proofs.assembly.assemble_series.Goals as goal

pub returns-clause-is_true : goal.returns-clause-is_true
returns-clause-is_true c = shown_is_true _ c.in_ok-series.series.tree c.args.budget c.in_ok-series.series.outcome c.in_ok-series.ensures.shown

pub returns-clause-one_form : goal.returns-clause-one_form
returns-clause-one_form c = best_form _ c.in_ok-series.series.outcome one_form_is_best (shown_is_true _ c.in_ok-series.series.tree c.args.budget c.in_ok-series.series.outcome c.in_ok-series.ensures.shown)
