use Rattle.std.proofs.Common.{◌≡◌, ℕ, ◌<◌, bit_and, get_or}
use Rattle.bank_tables.proofs.item_set.ItemSet.is_subset.Given as goal

abbrev pub invariant-loop-k : goal.invariant-loop-k
invariant-loop-k l = (j : ℕ) → j < l.k → bit_and (get_or l.self j 0) (get_or l.other j 0) ≡ get_or l.self j 0
