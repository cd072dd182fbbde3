use Rattle.certificate_model.proofs.SomeMaximum.{one_maximum}
use Rattle.certificate_model.proofs.laws.one_maximum.Goals as goal

pub returns : goal.returns
returns c = one_maximum
