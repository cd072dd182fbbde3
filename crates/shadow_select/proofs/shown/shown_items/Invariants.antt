use Rattle.std.proofs.Common.{◌≡◌, ℕ, ◌==◌, take}
use Rattle.std.specs.List.{list_any}
use Rattle.bank_tables.specs.Items.{has}
use Rattle.shadow_select.proofs.shown.shown_items.Given as goal

abbrev pub invariant-loop-k : goal.invariant-loop-k
invariant-loop-k l = (i : ℕ) → has l.items i ≡ list_any (λ item. item == i) (take l.k l.seat.shown)
