use Rattle.std.proofs.Common.{◌≡◌, ◌*◌, ◌+◌}
use Rattle.bank_tables.specs.Sums.{total_z}
use Rattle.lagrange_bound.specs.Fills.{excess}
use Rattle.certificate_model.specs.Ranges.{IsWithin, at}
use Rattle.lagrange_bound.specs.Ranges.{item_top}
use Rattle.lagrange_bound.proofs.threshold.excess_over.Given as goal

abbrev pub invariant-loop-i : goal.invariant-loop-i
invariant-loop-i l =
    record {
      value : l.sum ≡ total_z l.i (λ i. excess l.threshold (at l.weights i));
      within : IsWithin (l.i * (item_top + item_top)) l.sum;
    }
