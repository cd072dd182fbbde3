-- The sum of the k greatest of n numbers, by a threshold.
use Rattle.std.specs.Prelude.{◌≡◌, ℕ, ◌≤◌, true, cond, List, ℤ, pos, neg_ℤ, ◌+ℤ◌, ◌-ℤ◌, ◌*ℤ◌, ◌≤ℤ◌, int_le, int_lt}
use Rattle.bank_tables.specs.Sums.{count_in, total_z}
use Rattle.certificate_model.specs.Ranges.{at}
use Rattle.lagrange_bound.specs.Ranges.{item_top}

-- how many of the first n numbers are t or more, and how many are more
abbrev pub at_least : ℕ → List ℤ → ℤ → ℕ
at_least n xs t = count_in n (λ _. true) (λ i. int_le t (at xs i))

abbrev pub above : ℕ → List ℤ → ℤ → ℕ
above n xs t = count_in n (λ _. true) (λ i. int_lt t (at xs i))

-- what a number exceeds t by
abbrev pub excess : ℤ → ℤ → ℤ
excess t z = cond (int_lt t z) (z -ℤ t) (pos 0)

-- the number in place of the weight of an item that isn't free: it is below each weight
abbrev pub no_weight : ℤ
no_weight = neg_ℤ (pos 140737488355329)

-- t is a threshold of the k greatest: at most k are more, and at least k are t or more
pub record IsThreshold (n : ℕ) (xs : List ℤ) (k : ℕ) (t : ℤ) : Type 0 where
  pub low : neg_ℤ (pos item_top) ≤ℤ t
  pub high : t ≤ℤ pos item_top
  pub few : above n xs t ≤ k
  pub enough : k ≤ at_least n xs t

-- the sum of the k greatest: k times a threshold, and what they exceed it by
pub record IsSumOfGreatest (n : ℕ) (xs : List ℤ) (k : ℕ) (sum : ℤ) : Type 0 where
  pub threshold : ℤ
  pub is : IsThreshold n xs k threshold
  pub value : sum ≡ (pos k *ℤ threshold) +ℤ total_z n (λ i. excess threshold (at xs i))
