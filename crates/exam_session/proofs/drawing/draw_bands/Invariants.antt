use Rattle.exam_session.proofs.DrawNotes.{DrawnSoFar}
use Rattle.exam_session.proofs.drawing.draw_bands.Given as goal

abbrev pub invariant-loop-band : goal.invariant-loop-band
invariant-loop-band l = DrawnSoFar l.key l.rate l.session l.band l.counters l.sets
