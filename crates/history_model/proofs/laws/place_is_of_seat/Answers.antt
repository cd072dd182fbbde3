use Rattle.history_model.proofs.Running.{place_is_of_seat}
use Rattle.history_model.proofs.laws.place_is_of_seat.Goals as goal

pub returns : goal.returns
returns c = place_is_of_seat
