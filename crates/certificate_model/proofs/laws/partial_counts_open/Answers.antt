use Rattle.certificate_model.proofs.Undecided.{partial_counts_open}
use Rattle.certificate_model.proofs.laws.partial_counts_open.Goals as goal

pub returns : goal.returns
returns c = partial_counts_open
