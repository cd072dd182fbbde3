use Rattle.std.proofs.Common.{◌≡◌, false, not, ◌&&◌, ◌||◌}
use Rattle.bank_tables.specs.Items.{has}
use Rattle.bank_tables.specs.Sums.{any_below}
use Rattle.series_check.proofs.twins.same_items.Given as goal

abbrev pub invariant-loop-i : goal.invariant-loop-i
invariant-loop-i l = any_below l.i (λ i. (has l.first i && not (has l.second i)) || (not (has l.first i) && has l.second i)) ≡ false
