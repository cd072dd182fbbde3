use Rattle.std.proofs.Common.{◌≡◌, ℕ}
use Rattle.std.specs.Prelude.{nat_lt}
use Rattle.bank_tables.specs.Items.{has}
use Rattle.shadow_select.proofs.shown.all_items.Given as goal

abbrev pub invariant-loop-i : goal.invariant-loop-i
invariant-loop-i l = (k : ℕ) → has l.all k ≡ nat_lt k l.i
