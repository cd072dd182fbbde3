use Rattle.std.proofs.Common.{◌≡◌, ◌*◌, ◌≤◌}
use Rattle.bank_tables.specs.Items.{has}
use Rattle.bank_tables.specs.Sums.{sum_in}
use Rattle.bank_tables.specs.Tables.{info}
use Rattle.series_check.proofs.value.information_at.Given as goal

abbrev pub invariant-loop-i : goal.invariant-loop-i
invariant-loop-i l =
    record {
      value : l.sum ≡ sum_in l.i (has l.items) (λ i. info l.bank i l.point);
      small : l.sum ≤ l.i * 1000000;
    }
