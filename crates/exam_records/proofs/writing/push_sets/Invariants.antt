use Rattle.std.proofs.Common.{◌≡◌, ◌++◌}
use Rattle.exam_records.specs.Spelling.{sets_bytes}
use Rattle.exam_records.proofs.writing.push_sets.Given as goal

abbrev pub invariant-loop-band : goal.invariant-loop-band
invariant-loop-band l = l.out.items ≡ l.fn.out.items ++ sets_bytes l.band l.eligible.sets
