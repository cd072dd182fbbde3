use Rattle.std.proofs.Common.{◌≡◌, suc, ◌+◌, ◌*◌}
use Rattle.std.specs.Prelude.{slice_index}
use Rattle.bank_tables.specs.Sums.{total_z}
use Rattle.certificate_model.specs.Ranges.{IsWithin}
use Rattle.constraint_model.specs.Views.{problem_of}
use Rattle.lagrange_bound.specs.Links.{gain_on}
use Rattle.lagrange_bound.specs.Ranges.{excesses_top, stimulus_top}
use Rattle.lagrange_bound.proofs.relaxation.gains.Given as goal

abbrev pub invariant-loop-k : goal.invariant-loop-k
invariant-loop-k l =
    record {
      value : l.sum ≡ total_z l.k (λ k. gain_on (problem_of l.problem) l.cut (slice_index l.sides) l.excesses (suc k));
      within : IsWithin (l.k * (stimulus_top + excesses_top)) l.sum;
    }
