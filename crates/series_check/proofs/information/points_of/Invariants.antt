use Rattle.std.proofs.Common.{◌≡◌, ◌*◌, ◌≤◌}
use Rattle.std.specs.Prelude.{slice_index}
use Rattle.bank_tables.specs.Sums.{sum_in}
use Rattle.series_model.specs.SeriesBounds.{point_side, counts}
use Rattle.series_check.specs.Cuts.{problem_of}
use Rattle.series_check.proofs.information.points_of.Given as goal

abbrev pub invariant-loop-g : goal.invariant-loop-g
invariant-loop-g l =
    record {
      value : l.sum ≡ sum_in l.g (counts (problem_of l.setting)) (λ g. slice_index l.sides (point_side l.form g));
      high : l.sum ≤ l.g * 4294967295;
    }
