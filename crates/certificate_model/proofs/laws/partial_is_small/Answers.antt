use Rattle.certificate_model.proofs.Undecided.{partial_is_small}
use Rattle.certificate_model.proofs.laws.partial_is_small.Goals as goal

pub returns : goal.returns
returns c = partial_is_small
