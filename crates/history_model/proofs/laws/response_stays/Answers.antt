use Rattle.history_model.proofs.Staying.{response_stays}
use Rattle.history_model.proofs.laws.response_stays.Goals as goal

pub returns : goal.returns
returns c = response_stays
