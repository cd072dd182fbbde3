use Rattle.history_model.proofs.Staying.{holder_stays}
use Rattle.history_model.proofs.laws.holder_stays.Goals as goal

pub returns : goal.returns
returns c = holder_stays
