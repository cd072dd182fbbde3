use Rattle.std.proofs.Common.{◌≡◌, ℕ, not, ◌&&◌, ◌==◌, [], get_or}
use Rattle.bank_tables.specs.Items.{has}
use Rattle.bank_tables.specs.Sums.{any_below}
use Rattle.series_check.proofs.standing.in_another.Given as goal

abbrev pub invariant-loop-g : goal.invariant-loop-g
invariant-loop-g l = (i : ℕ) → has l.items i ≡ any_below l.g (λ h. not (h == l.form) && has (get_or l.taken h []) i)
