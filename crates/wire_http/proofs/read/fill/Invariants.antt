use Rattle.std.proofs.Common.{◌≡◌, ◌-◌, ◌++◌, IsTrue, length}
use Rattle.exam_edge.specs.Allowing.{StillAllows}
use Rattle.exam_edge.specs.Lent.{IsLent}
use Rattle.wire_http.specs.Messages.{bytes_of}
use Rattle.wire_http.proofs.read.fill.Given as goal

abbrev pub invariant-pieces : goal.invariant-pieces
invariant-pieces g l = record {
  bytes : IsTrue (g.K.Link.tells l.fn.link) → bytes_of l.kept ++ g.K.Link.left l.link ≡ bytes_of l.fn.kept ++ g.K.Link.left l.fn.link;
  written : IsTrue (g.K.Link.tells l.fn.link) → g.K.Link.written l.link ≡ g.K.Link.written l.fn.link;
  allows : StillAllows g.K.Link.allows l.fn.link l.link;
  frame : IsLent g.K.Link.tells g.K.Link.identity g.K.Link.faults l.fn.link l.link;
}

abbrev pub decreases-pieces : goal.decreases-pieces
decreases-pieces g l = l.count - length (bytes_of l.kept)
