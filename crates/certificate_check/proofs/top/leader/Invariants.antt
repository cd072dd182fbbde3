use Rattle.std.proofs.Common.{◌*◌}
use Rattle.bank_tables.specs.Items.{has}
use Rattle.certificate_check.specs.Tops.{IsBest}
use Rattle.certificate_check.proofs.top.leader.Given as goal

abbrev pub invariant-loop-i : goal.invariant-loop-i
invariant-loop-i l = IsBest (16 * l.block) l.i l.n l.weights (has l.free) (has l.taken) l.best
