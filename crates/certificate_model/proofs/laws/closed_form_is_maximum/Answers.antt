use Rattle.certificate_model.proofs.ClosedFormLaws.{closed_form_is}
use Rattle.certificate_model.proofs.laws.closed_form_is_maximum.Goals as goal

pub returns : goal.returns
returns c = closed_form_is
