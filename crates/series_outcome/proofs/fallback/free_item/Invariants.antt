use Rattle.std.proofs.Common.{◌≡◌, ℕ, ◌<◌, false}
use Rattle.series_model.specs.SeriesPaths.{is_free_in}
use Rattle.series_check.specs.Cuts.{problem_of, path_of}
use Rattle.series_outcome.proofs.fallback.free_item.Given as goal

abbrev pub invariant-loop-form : goal.invariant-loop-form
invariant-loop-form l = (f i : ℕ) → f < l.form → is_free_in (problem_of l.setting) (path_of l.cut) f i ≡ false
