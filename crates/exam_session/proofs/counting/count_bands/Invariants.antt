use Rattle.exam_session.proofs.CountNotes.{CountedSoFar}
use Rattle.exam_session.proofs.counting.count_bands.Given as goal

abbrev pub invariant-loop-band : goal.invariant-loop-band
invariant-loop-band l = CountedSoFar l.bank l.spec l.seat l.band l.fn.counters l.counters
