use Rattle.history_model.proofs.AheadLaws.{answered_there}
use Rattle.history_model.proofs.laws.answered_there.Goals as goal

pub returns : goal.returns
returns c = answered_there
