use Rattle.history_model.proofs.Running.{seat_before_start}
use Rattle.history_model.proofs.laws.seat_before_start.Goals as goal

pub returns : goal.returns
returns c = seat_before_start
