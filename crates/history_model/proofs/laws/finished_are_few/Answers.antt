use Rattle.history_model.proofs.Bounds.{finished_are_few}
use Rattle.history_model.proofs.laws.finished_are_few.Goals as goal

pub returns : goal.returns
returns c = finished_are_few
