use Rattle.std.proofs.Common.{◌≡◌, ℕ, ◌<◌, false}
use Rattle.certificate_model.specs.Counting.{is_impossible}
use Rattle.series_model.specs.SeriesPaths.{form_problem, form_path}
use Rattle.series_check.specs.Cuts.{problem_of, path_of}
use Rattle.series_outcome.proofs.counted.impossible.Given as goal

abbrev pub invariant-loop-form : goal.invariant-loop-form
invariant-loop-form l = (f r : ℕ) → f < l.form → is_impossible (form_problem (problem_of l.setting)) (form_path (problem_of l.setting) (path_of l.cut) f) r ≡ false
