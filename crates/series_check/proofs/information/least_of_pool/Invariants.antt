use Rattle.std.proofs.Common.{◌≡◌, ◌*◌, ◌≤◌, true}
use Rattle.std.specs.Prelude.{slice_index}
use Rattle.bank_tables.specs.Sums.{sum_in}
use Rattle.series_check.specs.Cuts.{problem_of}
use Rattle.series_check.specs.Points.{least_at}
use Rattle.series_check.proofs.information.least_of_pool.Given as goal

abbrev pub invariant-loop-f : goal.invariant-loop-f
invariant-loop-f l =
    record {
      value : l.sum ≡ sum_in l.f (λ _. true) (least_at (problem_of l.setting) (slice_index l.sides) l.bar);
      high : l.sum ≤ l.f * (61 * (4294967295 * (1000 * 18446744073709551616)));
    }
