use Rattle.certificate_model.proofs.SomeMaximum.{some_maximum}
use Rattle.certificate_model.proofs.laws.some_maximum.Goals as goal

pub returns : goal.returns
returns c = some_maximum
