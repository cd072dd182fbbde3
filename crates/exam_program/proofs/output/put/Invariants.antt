use Rattle.std.proofs.Common.{◌≡◌, ◌-◌, ◌≤◌, ◌++◌, length, take, IsTrue}
use Rattle.exam_edge.specs.Lent.{IsLent}
use Rattle.exam_program.proofs.output.put.Given as goal

abbrev pub decreases-piece : goal.decreases-piece
decreases-piece g l = length l.piece - l.done

abbrev pub invariant-piece : goal.invariant-piece
invariant-piece g l =
    record {
      within : l.done ≤ length l.piece;
      written : IsTrue (g.O.Sink.tells l.fn.out) → g.O.Sink.written l.out ≡ g.O.Sink.written l.fn.out ++ take l.done l.piece;
      frame : IsLent g.O.Sink.tells g.O.Sink.identity g.O.Sink.faults l.fn.out l.out;
    }
