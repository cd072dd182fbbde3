use Rattle.history_model.proofs.RunParts.{each_may_follow}
use Rattle.history_model.proofs.laws.each_may_follow.Goals as goal

pub returns : goal.returns
returns c = each_may_follow
