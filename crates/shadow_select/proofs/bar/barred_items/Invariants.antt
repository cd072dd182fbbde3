use Rattle.std.proofs.Common.{◌≡◌, ℕ, ◌&&◌, nat_lt}
use Rattle.bank_tables.specs.Items.{has}
use Rattle.serving_model.specs.Seats.{is_barred, is_unavailable_in}
use Rattle.shadow_select.proofs.bar.barred_items.Given as goal

abbrev pub invariant-loop-i : goal.invariant-loop-i
invariant-loop-i l = (j : ℕ) → has l.barred j ≡ (nat_lt j l.i && is_barred l.bank l.seat (is_unavailable_in l.seat l.band) j)
