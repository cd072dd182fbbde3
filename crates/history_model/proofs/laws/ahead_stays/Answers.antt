use Rattle.history_model.proofs.AheadLaws.{ahead_stays}
use Rattle.history_model.proofs.laws.ahead_stays.Goals as goal

pub returns : goal.returns
returns c = ahead_stays
