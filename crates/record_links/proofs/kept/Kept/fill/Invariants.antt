use Rattle.std.proofs.Common.{◌≡◌, ◌-◌, ◌++◌, IsTrue, length}
use Rattle.exam_edge.specs.Lent.{IsLent}
use Rattle.record_links.specs.Messages.{bytes_of}
use Rattle.record_links.proofs.kept.Kept.fill.Given as goal

abbrev pub invariant-pieces : goal.invariant-pieces
invariant-pieces g l = record {
  bytes : IsTrue (g.K.Link.tells l.fn.link) → bytes_of l.self ++ g.K.Link.left l.link ≡ bytes_of l.fn.self ++ g.K.Link.left l.fn.link;
  written : IsTrue (g.K.Link.tells l.fn.link) → g.K.Link.written l.link ≡ g.K.Link.written l.fn.link;
  frame : IsLent g.K.Link.tells g.K.Link.identity g.K.Link.faults l.fn.link l.link;
}

abbrev pub decreases-pieces : goal.decreases-pieces
decreases-pieces g l = l.count - length (bytes_of l.self)
