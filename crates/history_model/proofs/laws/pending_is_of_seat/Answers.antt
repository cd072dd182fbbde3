use Rattle.history_model.proofs.Running.{pending_is_of_seat}
use Rattle.history_model.proofs.laws.pending_is_of_seat.Goals as goal

pub returns : goal.returns
returns c = pending_is_of_seat
