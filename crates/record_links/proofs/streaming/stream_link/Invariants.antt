use Rattle.std.proofs.Common.{◌≡◌, ◌++◌, ◌≤◌, ℕ, List, IsTrue}
use Rattle.exam_edge.specs.Lent.{IsLent}
use Rattle.record_links.specs.Messages.{bytes_of}
use Rattle.record_links.specs.Streaming.{IsGrown, Streams}
use Rattle.record_links.proofs.streaming.stream_link.Given as goal

abbrev pub invariant-haves : goal.invariant-haves
invariant-haves g l = record {
  streamed : IsTrue (g.G.GrowingLog.tells l.fn.log) → IsTrue (g.K.Link.tells l.fn.link) → (texts : List ℕ)
      × (g.K.Link.written l.link ≡ g.K.Link.written l.fn.link ++ texts)
      × Streams (g.G.GrowingLog.records l.fn.log) (g.K.Link.left l.fn.link) texts (bytes_of l.kept ++ g.K.Link.left l.link)
      (g.G.GrowingLog.records l.log);
  grown : IsTrue (g.G.GrowingLog.tells l.fn.log) → IsGrown (g.G.GrowingLog.records l.fn.log) (g.G.GrowingLog.records l.log);
  tells : g.G.GrowingLog.tells l.log ≡ g.G.GrowingLog.tells l.fn.log;
  faults : g.G.GrowingLog.faults l.fn.log ≤ g.G.GrowingLog.faults l.log;
  frame : IsLent g.K.Link.tells g.K.Link.identity g.K.Link.faults l.fn.link l.link;
}
