use Rattle.history_model.proofs.Staying.{closed_stays}
use Rattle.history_model.proofs.laws.closed_stays.Goals as goal

pub returns : goal.returns
returns c = closed_stays
