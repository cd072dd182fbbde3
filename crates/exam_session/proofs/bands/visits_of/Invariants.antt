use Rattle.std.proofs.Common.{take}
use Rattle.serving_model.specs.Seats.{answers}
use Rattle.ability_grid.specs.Running.{IsSumsOf}
use Rattle.exam_session.proofs.VisitNotes.{VisitedSoFar}
use Rattle.exam_session.proofs.bands.visits_of.Given as goal

abbrev pub invariant-loop-k : goal.invariant-loop-k
invariant-loop-k l =
    record {
      sums : IsSumsOf l.bank l.spec.prior (take l.k (answers l.seat)) l.sums;
      visited : VisitedSoFar l.bank l.spec l.seat l.k l.found;
    }
