use Rattle.certificate_model.proofs.Undecided.{few_open}
use Rattle.certificate_model.proofs.laws.few_open.Goals as goal

pub returns : goal.returns
returns c = few_open
