use Rattle.std.proofs.Common.{◌≡◌, ℕ, ◌<◌, false}
use Rattle.series_model.specs.SeriesPaths.{is_free_in}
use Rattle.series_check.specs.Cuts.{problem_of, path_of}
use Rattle.series_check.proofs.leaf.is_whole.Given as goal

abbrev pub invariant-loop-f : goal.invariant-loop-f
invariant-loop-f l = (f i : ℕ) → f < l.f → is_free_in (problem_of l.setting) (path_of l.cut) f i ≡ false
