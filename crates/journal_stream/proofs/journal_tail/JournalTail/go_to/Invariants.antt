use Rattle.std.proofs.Common.{◌≡◌, ◌≤◌, ◌-◌, IsTrue}
use Rattle.record_links.specs.Streaming.{IsGrown}
use Rattle.journal_stream.proofs.journal_tail.JournalTail.go_to.Given as goal

abbrev pub invariant-records : goal.invariant-records
invariant-records g l = record {
  few : l.self.number ≤ l.number;
  grown : IsTrue (g.F.GrowingFile.tells l.fn.self.file) → IsGrown (g.F.GrowingFile.settled l.fn.self.file) (g.F.GrowingFile.settled l.self.file);
  moved : g.F.GrowingFile.moved l.self.file ≡ g.F.GrowingFile.moved l.fn.self.file;
  tells : g.F.GrowingFile.tells l.self.file ≡ g.F.GrowingFile.tells l.fn.self.file;
  faults : g.F.GrowingFile.faults l.fn.self.file ≤ g.F.GrowingFile.faults l.self.file;
}

abbrev pub decreases-records : goal.decreases-records
decreases-records g l = l.number - l.self.number
