use Rattle.shadow_select.proofs.StepLaws.{served_seat}
use Rattle.shadow_select.proofs.laws.a_served_seat_is_a_seat.Goals as goal

pub returns : goal.returns
returns c = served_seat
