use Rattle.std.proofs.Common.{◌≡◌, ℕ, ◌<◌, false}
use Rattle.certificate_model.specs.Paths.{Path}
use Rattle.form_model.specs.Plan.{row_at}
use Rattle.certificate_model.specs.Counting.{row_impossible}
use Rattle.constraint_model.specs.Views.{problem_of}
use Rattle.lagrange_bound.specs.Cuts.{IsCutOf}
use Rattle.lagrange_bound.proofs.counting.first_row.Given as goal

abbrev pub invariant-loop-r : goal.invariant-loop-r
invariant-loop-r l = (p : Path) → IsCutOf (problem_of l.problem) p l.cut → (r : ℕ) → r < l.r → row_impossible (problem_of l.problem) p (row_at (problem_of l.problem).plan r) ≡ false
