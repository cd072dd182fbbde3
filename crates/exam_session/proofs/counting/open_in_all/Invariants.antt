use Rattle.std.proofs.Common.{◌≡◌, ℕ, ◌<◌}
use Rattle.bank_tables.specs.Items.{has}
use Rattle.bank_tables.specs.Sums.{any_below}
use Rattle.bank_tables.specs.Tables.{size}
use Rattle.bank_tables.specs.Validity.{HoldsItems}
use Rattle.history_model.specs.Counts.{opens_in}
use Rattle.exam_session.proofs.counting.open_in_all.Given as goal

abbrev pub invariant-loop-band : goal.invariant-loop-band
invariant-loop-band l =
    record {
      open_so_far : (i : ℕ) → i < size l.bank → has l.open i ≡ any_below l.band (λ band. opens_in l.bank l.spec band i l.seat);
      items : HoldsItems l.bank (has l.open);
    }
