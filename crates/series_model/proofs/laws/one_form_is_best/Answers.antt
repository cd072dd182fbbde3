use Rattle.series_model.proofs.OneFormLaws.{one_form_is_best}
use Rattle.series_model.proofs.laws.one_form_is_best.Goals as goal

pub returns : goal.returns
returns c = one_form_is_best
