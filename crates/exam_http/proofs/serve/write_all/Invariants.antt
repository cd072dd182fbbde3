use Rattle.std.proofs.Common.{◌≡◌, ◌-◌, ◌≤◌, ◌++◌, IsTrue, length, take}
use Rattle.exam_edge.specs.Allowing.{StillAllows}
use Rattle.exam_edge.specs.Lent.{IsLent}
use Rattle.exam_http.proofs.serve.write_all.Given as goal

abbrev pub invariant-pieces : goal.invariant-pieces
invariant-pieces g l = record {
  within : l.done ≤ length l.text;
  written : IsTrue (g.K.Link.tells l.fn.link) → g.K.Link.written l.link ≡ g.K.Link.written l.fn.link ++ take l.done l.text;
  left : IsTrue (g.K.Link.tells l.fn.link) → g.K.Link.left l.link ≡ g.K.Link.left l.fn.link;
  allows : StillAllows g.K.Link.allows l.fn.link l.link;
  frame : IsLent g.K.Link.tells g.K.Link.identity g.K.Link.faults l.fn.link l.link;
}

abbrev pub decreases-pieces : goal.decreases-pieces
decreases-pieces g l = length l.text - l.done
