use Rattle.std.proofs.Common.{◌≡◌, ℕ, ◌≤◌, ◌<◌, false}
use Rattle.bank_tables.specs.Items.{has}
use Rattle.bank_tables.proofs.item_set.ItemSet.all_below.Given as goal

abbrev pub invariant-loop-i : goal.invariant-loop-i
invariant-loop-i l = (i : ℕ) → l.bound ≤ i → i < l.i → has l.self i ≡ false
