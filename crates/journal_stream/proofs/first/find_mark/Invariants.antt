use Rattle.std.proofs.Common.{◌≡◌, ◌≤◌, ◌+◌, ◌-◌, IsTrue}
use Rattle.record_links.specs.Streaming.{IsGrown}
use Rattle.journal_stream.specs.First.{IsOldGate}
use Rattle.journal_stream.proofs.first.find_mark.Given as goal

abbrev pub invariant-old : goal.invariant-old
invariant-old g l = record {
  gate : IsTrue (g.F.GrowingFile.tells l.fn.file) → IsOldGate (g.F.GrowingFile.moved l.fn.file) l.at;
  past : 8 ≤ l.at;
  few : l.at ≤ 537001989;
  grown : IsTrue (g.F.GrowingFile.tells l.fn.file) → IsGrown (g.F.GrowingFile.settled l.fn.file) (g.F.GrowingFile.settled l.file);
  moved : g.F.GrowingFile.moved l.file ≡ g.F.GrowingFile.moved l.fn.file;
  tells : g.F.GrowingFile.tells l.file ≡ g.F.GrowingFile.tells l.fn.file;
  faults : g.F.GrowingFile.faults l.fn.file ≤ g.F.GrowingFile.faults l.file;
}

abbrev pub decreases-old : goal.decreases-old
decreases-old g l = 536870912 + 1 - l.at
