use Rattle.std.proofs.Common.{◌<◌, IfSome}
use Rattle.bank_tables.specs.Items.{has}
use Rattle.certificate_check.specs.Tops.{IsNextBest}
use Rattle.series_check.proofs.top.best_of.Given as goal

abbrev pub invariant-loop-i : goal.invariant-loop-i
invariant-loop-i l =
    record {
      best : IsNextBest l.i l.weights (has l.free) (has l.taken) l.best;
      item : IfSome l.best (λ j. j < 512);
    }
