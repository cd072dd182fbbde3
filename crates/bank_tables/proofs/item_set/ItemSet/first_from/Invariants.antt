use Rattle.std.proofs.Common.{◌≡◌, ℕ, ◌<◌, ◌/◌, get_or}
use Rattle.bank_tables.proofs.item_set.ItemSet.first_from.Given as goal

abbrev pub invariant-loop-k : goal.invariant-loop-k
invariant-loop-k l = (j : ℕ) → l.from / 64 < j → j < l.k → get_or l.self j 0 ≡ 0
