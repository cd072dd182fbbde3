use Rattle.std.proofs.Common.{◌≡◌, take}
use Rattle.exam_session.proofs.kept_seat.responses_of.Given as goal

abbrev pub invariant-loop-response : goal.invariant-loop-response
invariant-loop-response l = l.responses ≡ take l.response-index l.list
