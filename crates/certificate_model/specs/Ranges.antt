-- Numbers near 0, and the elements of arrays of signed numbers, for code that adds up reduced
-- weights.
use Rattle.std.specs.Prelude.{ℕ, ◌≤◌, List, get_or, ℤ, pos, neg_ℤ, ◌≤ℤ◌}

-- the number is at most so far from 0
pub record IsWithin (top : ℕ) (z : ℤ) : Type 0 where
  pub low : neg_ℤ (pos top) ≤ℤ z
  pub high : z ≤ℤ pos top

abbrev pub at : List ℤ → ℕ → ℤ
at xs i = get_or xs i (pos 0)

-- the multiplier of each side is at most 2 ^ 24
abbrev pub AreMultipliers : (ℕ → ℕ) → Type 0
AreMultipliers M = (side : ℕ) → M side ≤ 16777216
