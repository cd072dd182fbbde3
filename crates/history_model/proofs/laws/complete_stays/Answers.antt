use Rattle.history_model.proofs.Staying.{complete_stays}
use Rattle.history_model.proofs.laws.complete_stays.Goals as goal

pub returns : goal.returns
returns c = complete_stays
