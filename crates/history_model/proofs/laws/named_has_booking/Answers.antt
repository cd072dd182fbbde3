use Rattle.history_model.proofs.NamedSessions.{named_has_booking}
use Rattle.history_model.proofs.laws.named_has_booking.Goals as goal

pub returns : goal.returns
returns c = named_has_booking
