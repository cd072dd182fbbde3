use Rattle.history_model.proofs.ReasonLaws.{no_reason_if_may}
use Rattle.history_model.proofs.laws.no_reason_if_may.Goals as goal

pub returns : goal.returns
returns c = no_reason_if_may
