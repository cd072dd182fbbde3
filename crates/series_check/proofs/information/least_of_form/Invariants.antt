use Rattle.std.proofs.Common.{◌≡◌, ◌*◌, ◌≤◌}
use Rattle.std.specs.Prelude.{slice_index}
use Rattle.bank_tables.specs.Sums.{sum_in}
use Rattle.series_model.specs.SeriesBounds.{counts}
use Rattle.series_check.specs.Cuts.{problem_of}
use Rattle.series_check.specs.Points.{least_term}
use Rattle.series_check.proofs.information.least_of_form.Given as goal

abbrev pub invariant-loop-g : goal.invariant-loop-g
invariant-loop-g l =
    record {
      value : l.sum ≡ sum_in l.g (counts (problem_of l.setting)) (least_term (problem_of l.setting) (slice_index l.sides) l.bar l.form);
      high : l.sum ≤ l.g * (4294967295 * (1000 * 18446744073709551616));
    }
