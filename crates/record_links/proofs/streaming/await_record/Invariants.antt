use Rattle.std.proofs.Common.{◌≡◌, ◌≤◌, IsTrue}
use Rattle.record_links.specs.Streaming.{IsGrown}
use Rattle.record_links.proofs.streaming.await_record.Given as goal

abbrev pub invariant-looks : goal.invariant-looks
invariant-looks g l = record {
  grown : IsTrue (g.G.GrowingLog.tells l.fn.log) → IsGrown (g.G.GrowingLog.records l.fn.log) (g.G.GrowingLog.records l.log);
  tells : g.G.GrowingLog.tells l.log ≡ g.G.GrowingLog.tells l.fn.log;
  faults : g.G.GrowingLog.faults l.fn.log ≤ g.G.GrowingLog.faults l.log;
}
