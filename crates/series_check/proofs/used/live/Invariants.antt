use Rattle.std.proofs.Common.{◌≡◌, ℕ}
use Rattle.bank_tables.specs.Items.{has}
use Rattle.bank_tables.specs.Sums.{any_below}
use Rattle.series_model.specs.SeriesPaths.{is_free_in}
use Rattle.series_check.specs.Cuts.{problem_of, path_of}
use Rattle.series_check.proofs.used.live.Given as goal

abbrev pub invariant-loop-f : goal.invariant-loop-f
invariant-loop-f l = (i : ℕ) → has l.items i ≡ any_below l.f (λ f. is_free_in (problem_of l.setting) (path_of l.cut) f i)
