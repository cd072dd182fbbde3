use Rattle.std.proofs.Common.{◌*◌, ◌<◌}
use Rattle.std.specs.Prelude.{IfSome}
use Rattle.bank_tables.specs.Items.{Set}
use Rattle.certificate_check.specs.Tops.{IsBest, AreLeaders}
use Rattle.certificate_check.proofs.top.first_leader.Given as goal

abbrev pub invariant-loop-block : goal.invariant-loop-block
invariant-loop-block l =
    record {
      item : IfSome l.best (λ i. i < 512);
      best : (F T : Set) → AreLeaders l.n l.weights F T l.leaders → IsBest 0 (16 * l.block) l.n l.weights F T l.best;
    }
