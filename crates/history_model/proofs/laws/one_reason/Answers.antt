use Rattle.history_model.proofs.ReasonLaws.{one_reason}
use Rattle.history_model.proofs.laws.one_reason.Goals as goal

pub returns : goal.returns
returns c = one_reason
