use Rattle.std.proofs.Common.{◌≡◌, ◌*◌}
use Rattle.std.specs.Prelude.{slice_index}
use Rattle.bank_tables.specs.Sums.{total_z}
use Rattle.constraint_model.specs.Views.{problem_of}
use Rattle.certificate_model.specs.Weights.{constant_share}
use Rattle.certificate_model.specs.Ranges.{IsWithin}
use Rattle.certificate_check.proofs.weights.rows_constant.Given as goal

abbrev pub invariant-loop-r : goal.invariant-loop-r
invariant-loop-r l =
    record {
      value : l.sum ≡ total_z l.r (constant_share (problem_of l.problem) (slice_index l.sides));
      within : IsWithin (l.r * (16777216 * 33553920)) l.sum;
    }
