use Rattle.shadow_select.proofs.StepLaws.{new_seat}
use Rattle.shadow_select.proofs.laws.a_new_seat_is_a_seat.Goals as goal

pub returns : goal.returns
returns c = new_seat
