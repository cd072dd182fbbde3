use Rattle.shadow_select.proofs.StepLaws.{answered_seat}
use Rattle.shadow_select.proofs.laws.an_answered_seat_is_a_seat.Goals as goal

pub returns : goal.returns
returns c = answered_seat
