use Rattle.certificate_model.proofs.SomeMaximum.{maximum_means_possible}
use Rattle.certificate_model.proofs.laws.maximum_means_possible.Goals as goal

pub returns : goal.returns
returns c = maximum_means_possible
