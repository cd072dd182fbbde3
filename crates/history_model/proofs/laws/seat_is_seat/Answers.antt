use Rattle.history_model.proofs.Running.{seat_is_seat}
use Rattle.history_model.proofs.laws.seat_is_seat.Goals as goal

pub returns : goal.returns
returns c = seat_is_seat
