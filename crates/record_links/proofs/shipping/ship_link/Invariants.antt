use Rattle.std.proofs.Common.{◌≡◌, ◌++◌, ◌≤◌, ◌+◌, ◌*◌, ℕ, List, length, IsTrue}
use Rattle.exam_edge.specs.Lent.{IsLent}
use Rattle.record_links.specs.Messages.{bytes_of}
use Rattle.record_links.specs.Shipping.{Ships}
use Rattle.record_links.proofs.shipping.ship_link.Given as goal

abbrev pub invariant-haves : goal.invariant-haves
invariant-haves g l = record {
  shipped : IsTrue (g.S.RecordLog.tells l.fn.log) → IsTrue (g.K.Link.tells l.fn.link) → (texts : List ℕ)
      × (g.K.Link.written l.link ≡ g.K.Link.written l.fn.link ++ texts)
      × Ships (g.S.RecordLog.records l.fn.log) (g.K.Link.left l.fn.link) l._read texts (bytes_of l.kept ++ g.K.Link.left l.link);
  within : l._read ≤ 2 * length (g.S.RecordLog.records l.fn.log) + 1;
  same : g.S.RecordLog.records l.log ≡ g.S.RecordLog.records l.fn.log;
  tells : g.S.RecordLog.tells l.log ≡ g.S.RecordLog.tells l.fn.log;
  later : g.S.RecordLog.is_later l.fn.log l.log;
  faults : g.S.RecordLog.faults l.fn.log ≤ g.S.RecordLog.faults l.log;
  frame : IsLent g.K.Link.tells g.K.Link.identity g.K.Link.faults l.fn.link l.link;
}
