use Rattle.history_model.proofs.CompleteLaws.{complete_meets}
use Rattle.history_model.proofs.laws.complete_meets.Goals as goal

pub returns : goal.returns
returns c = complete_meets
