-- Sets of items in numbers, a bit for each item.
use Rattle.std.specs.Prelude.{ℕ, false, zero, suc, ◌+◌, ◌*◌, ◌/◌, ◌%◌, ◌^◌, ◌==◌, ◌&&◌, nat_lt, List, [], ◌∷◌, ◌++◌, slice_index}
use Rattle.std.specs.Int.{bit_at}
use Rattle.bank_tables.specs.Items.{Set}
use Rattle.bank_tables.specs.Sums.{sum_in}

-- so many items of the set, from one on, in one number: the sum of 2 ^ j over those j for which
-- item first + j is in it
unfoldable pub number_of : ℕ → Set → ℕ → ℕ
number_of bits X first = sum_in bits (λ j. X (first + j)) (λ j. 2 ^ j)

-- the set in so many numbers of so many bits each: item i is bit i % bits of number i / bits
unfoldable pub numbers_of : ℕ → ℕ → Set → List ℕ
numbers_of zero bits X = []
numbers_of (suc count) bits X = numbers_of count bits X ++ number_of bits X (bits * count) ∷ []

-- a set of items in 64 bytes: item i is bit i % 8 of byte i / 8
abbrev pub set_bytes : Set → List ℕ
set_bytes X = numbers_of 64 8 X

-- a set of items as contracts see it, in 8 words of 64 bits
abbrev pub words_of : Set → List ℕ
words_of X = numbers_of 8 64 X

-- no items
abbrev pub no_items : List ℕ
no_items = words_of (λ _. false)

-- the set of items in the 64 bytes from a place on
unfoldable pub items_at : List ℕ → ℕ → Set
items_at bytes at i = nat_lt i 512 && (bit_at (slice_index bytes (at + i / 8)) (i % 8) == 1)
