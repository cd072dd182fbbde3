use Rattle.std.proofs.Common.{◌≡◌, ℕ, ◌<◌, ◌≤◌, bit_or, get_or, length}
use Rattle.bank_tables.proofs.item_set.ItemSet.union.Given as goal

abbrev pub invariant-loop-k : goal.invariant-loop-k
invariant-loop-k l = record {
  size : length l.words ≡ 8;
  done : (j : ℕ) → j < l.k → get_or l.words j 0 ≡ bit_or (get_or l.fn.self j 0) (get_or l.others j 0);
  left : (j : ℕ) → l.k ≤ j → get_or l.words j 0 ≡ get_or l.fn.self j 0;
}
