use Rattle.history_model.proofs.Running.{the_seat_goes_on}
use Rattle.history_model.proofs.laws.seat_goes_on.Goals as goal

pub returns : goal.returns
returns c = the_seat_goes_on
