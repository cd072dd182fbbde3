use Rattle.std.proofs.Common.{◌≡◌, ◌*◌, ◌≤◌}
use Rattle.std.specs.Prelude.{slice_index}
use Rattle.bank_tables.specs.Sums.{sum_in}
use Rattle.series_model.specs.SeriesBounds.{counts}
use Rattle.series_check.specs.Cuts.{problem_of}
use Rattle.series_check.specs.Points.{point_term}
use Rattle.series_check.proofs.information.information.Given as goal

abbrev pub invariant-loop-g : goal.invariant-loop-g
invariant-loop-g l =
    record {
      value : l.sum ≡ sum_in l.g (counts (problem_of l.setting)) (point_term (problem_of l.setting) (slice_index l.sides) l.form l.item);
      high : l.sum ≤ l.g * (4294967295 * 1000000000);
    }
