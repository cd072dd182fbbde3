use Rattle.history_model.proofs.Bounds.{sessions_are_few}
use Rattle.history_model.proofs.laws.sessions_are_few.Goals as goal

pub returns : goal.returns
returns c = sessions_are_few
