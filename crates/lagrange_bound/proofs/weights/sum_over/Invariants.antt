use Rattle.std.proofs.Common.{◌≡◌, ◌*◌}
use Rattle.bank_tables.specs.Items.{has}
use Rattle.bank_tables.specs.Sums.{sum_in_z}
use Rattle.certificate_model.specs.Ranges.{IsWithin, at}
use Rattle.lagrange_bound.specs.Ranges.{item_top}
use Rattle.lagrange_bound.proofs.weights.sum_over.Given as goal

abbrev pub invariant-loop-i : goal.invariant-loop-i
invariant-loop-i l =
    record {
      value : l.sum ≡ sum_in_z l.i (has l.items) (at l.weights);
      within : IsWithin (l.i * item_top) l.sum;
    }
