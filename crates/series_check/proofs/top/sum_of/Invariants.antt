use Rattle.std.proofs.Common.{◌≡◌, ◌*◌}
use Rattle.bank_tables.specs.Items.{has}
use Rattle.bank_tables.specs.Sums.{sum_in_z}
use Rattle.certificate_model.specs.Ranges.{IsWithin, at}
use Rattle.series_check.proofs.top.sum_of.Given as goal

abbrev pub invariant-loop-i : goal.invariant-loop-i
invariant-loop-i l =
    record {
      value : l.sum ≡ sum_in_z l.i (has l.items) (at l.weights);
      within : IsWithin (l.i * 300000000000000000000) l.sum;
    }
