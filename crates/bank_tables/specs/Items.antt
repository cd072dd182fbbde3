-- Sets, as contracts see them.
use Rattle.std.specs.Prelude.{◌≡◌, ℕ, ◌/◌, ◌%◌, ◌^◌, ◌<◌, ◌≤◌, Bool, false, List, length, get_or, ◌==◌, IsTrue}
use Rattle.std.specs.Int.{bit_at}

-- a set of numbers, as the test that its members pass
abbrev pub Set : Type 0
Set = ℕ → Bool

-- the item is in the set of these 8 words of 64 bits: item i is bit i % 64 of word i / 64
unfoldable pub has : List ℕ → Set
has words i = bit_at (get_or words (i / 64) 0) (i % 64) == 1

-- x is the lowest member of X
pub record IsLowest (X : Set) (x : ℕ) : Type 0 where
  pub member : IsTrue (X x)
  pub below : (i : ℕ) → i < x → X i ≡ false

-- x is the lowest member of X from a number on
pub record IsLowestFrom (X : Set) (from x : ℕ) : Type 0 where
  pub member : IsTrue (X x)
  pub high : from ≤ x
  pub below : (i : ℕ) → from ≤ i → i < x → X i ≡ false

-- the words of a set of items: 8 of 64 bits
pub record AreWords (words : List ℕ) : Type 0 where
  pub eight : length words ≡ 8
  pub small : (k : ℕ) → k < 8 → get_or words k 0 < 2 ^ 64
