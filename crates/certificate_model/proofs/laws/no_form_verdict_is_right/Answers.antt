use Rattle.certificate_model.proofs.TreeLaws.{no_form_is_none}
use Rattle.certificate_model.proofs.laws.no_form_verdict_is_right.Goals as goal

pub returns : goal.returns
returns c = no_form_is_none
