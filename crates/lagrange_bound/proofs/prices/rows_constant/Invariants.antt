use Rattle.std.proofs.Common.{◌≡◌, ◌*◌}
use Rattle.std.specs.Prelude.{slice_index}
use Rattle.bank_tables.specs.Sums.{total_z}
use Rattle.certificate_model.specs.Ranges.{IsWithin}
use Rattle.certificate_model.specs.Weights.{constant_share}
use Rattle.constraint_model.specs.Views.{problem_of}
use Rattle.lagrange_bound.specs.Ranges.{bounds_top}
use Rattle.lagrange_bound.proofs.prices.rows_constant.Given as goal

abbrev pub invariant-loop-r : goal.invariant-loop-r
invariant-loop-r l =
    record {
      value : l.sum ≡ total_z l.r (constant_share (problem_of l.problem) (slice_index l.sides));
      within : IsWithin (l.r * bounds_top) l.sum;
    }
