use Rattle.history_model.proofs.Lifted.{lifted_may_follow}
use Rattle.history_model.proofs.laws.lifted_may_follow.Goals as goal

pub returns : goal.returns
returns c = lifted_may_follow
