use Rattle.exam_records.proofs.BandFields.{IsReadTo}
use Rattle.exam_records.proofs.reading.bands_of.Given as goal

abbrev pub invariant-loop-band : goal.invariant-loop-band
invariant-loop-band l = IsReadTo l.bytes l.at l.band l.sets
