use Rattle.std.proofs.Common.{◌≡◌, false}
use Rattle.bank_tables.specs.Items.{has}
use Rattle.bank_tables.specs.Sums.{any_below}
use Rattle.series_check.proofs.used.has_some.Given as goal

abbrev pub invariant-loop-i : goal.invariant-loop-i
invariant-loop-i l = any_below l.i (has l.items) ≡ false
