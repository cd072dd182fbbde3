use Rattle.std.proofs.Common.{◌≡◌, take}
use Rattle.exam_session.proofs.kept_seat.items_of.Given as goal

abbrev pub invariant-loop-item : goal.invariant-loop-item
invariant-loop-item l = l.items ≡ take l.item-index l.list
