use Rattle.bank_tables.specs.Items.{has}
use Rattle.certificate_check.specs.Tops.{AreLeaders, IsTopOf}
use Rattle.certificate_check.proofs.top.top_of.Given as goal

abbrev pub invariant-loop-round : goal.invariant-loop-round
invariant-loop-round l =
    record {
      top : IsTopOf l.n l.weights (has l.free) l._round (has l.top);
      leaders : AreLeaders l.n l.weights (has l.free) (has l.top) l.leaders;
    }
