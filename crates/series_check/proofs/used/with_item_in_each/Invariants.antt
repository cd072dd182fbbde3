use Rattle.std.proofs.Common.{◌≡◌, ℕ, ◌&&◌, ◌||◌, ◌==◌, nat_lt, [], get_or}
use Rattle.bank_tables.specs.Items.{has}
use Rattle.series_check.proofs.used.with_item_in_each.Given as goal

abbrev pub invariant-loop-g : goal.invariant-loop-g
invariant-loop-g l = (h i : ℕ) → has (get_or l.changed h []) i ≡ ((nat_lt h l.g && i == l.item) || has (get_or l.sets h []) i)
