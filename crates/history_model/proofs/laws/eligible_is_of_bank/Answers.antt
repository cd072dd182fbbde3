use Rattle.history_model.proofs.Bounds.{eligible_is_of_bank}
use Rattle.history_model.proofs.laws.eligible_is_of_bank.Goals as goal

pub returns : goal.returns
returns c = eligible_is_of_bank
