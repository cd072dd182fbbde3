use Rattle.std.proofs.Common.{◌≡◌, ℕ, ◌<◌, false}
use Rattle.certificate_model.specs.Counting.{row_impossible}
use Rattle.form_model.specs.Plan.{row_at}
use Rattle.constraint_model.specs.Views.{problem_of}
use Rattle.certificate_check.specs.Columns.{IsColumn}
use Rattle.certificate_check.specs.Cuts.{path_of}
use Rattle.certificate_check.proofs.counting.are_rows_possible.Given as goal

abbrev pub invariant-loop-r : goal.invariant-loop-r
invariant-loop-r l =
    record {
      column : IsColumn (problem_of l.problem).bank l.column;
      possible : (r : ℕ) → r < l.r → row_impossible (problem_of l.problem) (path_of l.standing.cut) (row_at (problem_of l.problem).plan r) ≡ false;
    }
