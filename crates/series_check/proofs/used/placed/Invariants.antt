use Rattle.std.proofs.Common.{◌≡◌, ℕ, [], get_or}
use Rattle.bank_tables.specs.Items.{has}
use Rattle.bank_tables.specs.Sums.{any_below}
use Rattle.series_check.proofs.used.placed.Given as goal

abbrev pub invariant-loop-f : goal.invariant-loop-f
invariant-loop-f l = (i : ℕ) → has l.items i ≡ any_below l.f (λ f. has (get_or l.cut.taken f []) i)
