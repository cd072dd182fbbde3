use Rattle.std.proofs.Common.{◌≡◌, ◌*◌, suc}
use Rattle.std.specs.Prelude.{slice_index}
use Rattle.bank_tables.specs.Sums.{total_z}
use Rattle.constraint_model.specs.Views.{problem_of}
use Rattle.certificate_check.specs.Cuts.{path_of}
use Rattle.certificate_check.specs.Maximum.{gain_of_stimulus}
use Rattle.certificate_model.specs.Ranges.{IsWithin, at}
use Rattle.certificate_check.proofs.relaxed.gains.Given as goal

abbrev pub invariant-loop-k : goal.invariant-loop-k
invariant-loop-k l =
    record {
      value : l.sum ≡ total_z l.k (λ k. gain_of_stimulus (problem_of l.problem) (path_of l.standing.cut) (slice_index l.sides) (at l.excesses k) (suc k));
      within : IsWithin (l.k * 73323252256079872) l.sum;
    }
