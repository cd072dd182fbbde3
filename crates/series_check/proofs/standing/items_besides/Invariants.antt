use Rattle.std.proofs.Common.{not, ◌&&◌}
use Rattle.bank_tables.specs.Items.{has}
use Rattle.certificate_check.proofs.Collected.{IsCollected}
use Rattle.series_check.proofs.standing.items_besides.Given as goal

abbrev pub invariant-loop-i : goal.invariant-loop-i
invariant-loop-i l = IsCollected l.i (λ j. not (has l.taken j) && not (has l.out j)) (has l.free)
