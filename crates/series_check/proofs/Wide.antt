-- Sums in 128 bits of numbers that are near 0 against 2 ^ 127.
use Rattle.std.proofs.Common.{◌≡◌, ℕ, ◌+◌, ◌*◌, ◌≤◌, true, false, to_z, of_z, arith, add-one}
use Rattle.std.specs.Prelude.{ℤ, pos, ◌+ℤ◌, ◌-ℤ◌}
use Rattle.bank_tables.specs.Items.{Set}
use Rattle.bank_tables.specs.Sums.{sum_in_z}
use Rattle.std.specs.Int.{w128}
use Rattle.std.proofs.lemmas.Int.{ints}
use Rattle.certificate_model.specs.Ranges.{IsWithin}
use Rattle.series_model.proofs.SeriesSums.{times-le}

-- no number in the checker is further from 0
abbrev pub wide_top : ℕ
wide_top = 1000000000000000000000000000000

pub nearer : (m n : ℕ) (a : ℤ) → m ≤ n → IsWithin m a → IsWithin n a
nearer m n a le w = record { low = omega (arith, ints, w.low); high = omega (arith, ints, w.high) }

pub both_within : (m n k : ℕ) (a b : ℤ) → m + n ≤ k → IsWithin m a → IsWithin n b → IsWithin k (a +ℤ b)
both_within m n k a b le v w = record { low = omega (arith, ints, v.low, w.low); high = omega (arith, ints, v.high, w.high) }

pub read_back : (z : ℤ) → IsWithin wide_top z → to_z w128 (of_z w128 z) ≡ z
read_back z w = omega (arith, ints)

pub summed : (a b : ℤ) → IsWithin wide_top a → IsWithin wide_top b → to_z w128 (of_z w128 (a +ℤ to_z w128 (of_z w128 b))) ≡ a +ℤ b
summed a b v w = omega (arith, ints)

pub two_summed : (a b : ℤ) → IsWithin wide_top a → IsWithin wide_top b → to_z w128 (of_z w128 (to_z w128 (of_z w128 a) +ℤ to_z w128 (of_z w128 b))) ≡ a +ℤ b
two_summed a b v w = omega (arith, ints)

pub three_summed : (a b c : ℤ) → IsWithin wide_top a → IsWithin wide_top b → IsWithin wide_top c → to_z w128 (of_z w128 (to_z w128 (of_z w128 a) +ℤ to_z w128 (of_z w128 (to_z w128 (of_z w128 b) +ℤ to_z w128 (of_z w128 c))))) ≡ a +ℤ (b +ℤ c)
three_summed a b c wa wb wc = omega (arith, ints)

pub sums_alike : (a b c b' c' : ℤ) → b ≡ b' → c ≡ c' → a +ℤ (b +ℤ c) ≡ a +ℤ (b' +ℤ c')
sums_alike a b c b' c' e h = cc

pub four_summed : (a b c d : ℤ) → IsWithin wide_top a → IsWithin wide_top b → IsWithin wide_top c → IsWithin wide_top d →
    to_z w128 (of_z w128 (to_z w128 (of_z w128 a) +ℤ to_z w128 (of_z w128 (to_z w128 (of_z w128 (to_z w128 (of_z w128 b) +ℤ to_z w128 (of_z w128 c))) +ℤ to_z w128 (of_z w128 d))))) ≡ a +ℤ ((b +ℤ c) +ℤ d)
four_summed a b c d wa wb wc wd = omega (arith, ints)

pub from_unsigned : (n : ℕ) → n ≤ 2199023255040 → to_z w128 n ≡ pos n
from_unsigned n few = omega (arith, ints)

pub unsigned_within : (n m : ℕ) → n ≤ m → IsWithin m (pos n)
unsigned_within n m few = record { low = omega (arith, ints); high = omega (arith, ints) }

-- the multipliers of the points times a value that fits 64 bits
pub goal_fits : (n m : ℕ) → n ≤ 1047972019980 → m ≤ 18446744073709551616 → to_z w128 (n * m) ≡ pos (n * m)
goal_fits n m few low = let e : n * m ≤ n * 18446744073709551616 = times-le n m 18446744073709551616 low in omega (arith, ints)

pub wide_unsigned : (n : ℕ) → n ≤ 4 * (61 * (4294967295 * (1000 * 18446744073709551616))) → to_z w128 n ≡ pos n
wide_unsigned n few = omega (arith, ints)

-- ---- one number more of a sum over a set
pub one_in : (i : ℕ) (X : Set) (f : ℕ → ℤ) (sum new : ℤ) → X i ≡ true → sum ≡ sum_in_z i X f → new ≡ sum +ℤ f i → new ≡ sum_in_z (i + 1) X f
one_in i X f sum new is so_far e = rw (add-one, is) (omega (arith, ints, so_far, e))

pub one_out : (i : ℕ) (X : Set) (f : ℕ → ℤ) (sum new : ℤ) → X i ≡ false → sum ≡ sum_in_z i X f → new ≡ sum → new ≡ sum_in_z (i + 1) X f
one_out i X f sum new is so_far e = rw (add-one, is) (omega (arith, ints, so_far, e))

-- ---- a weight less a price
pub less_near : (a b : ℤ) → IsWithin 299000000000000000000 a → IsWithin 4294967295 b → IsWithin 300000000000000000000 (a -ℤ b)
less_near a b v w = record { low = omega (arith, ints, v.low, w.low, v.high, w.high); high = omega (arith, ints, v.low, w.low, v.high, w.high) }

pub less_read : (a b : ℤ) → IsWithin 299000000000000000000 a → IsWithin 4294967295 b → to_z w128 (of_z w128 (to_z w128 (of_z w128 a) -ℤ to_z w128 (of_z w128 b))) ≡ a -ℤ b
less_read a b v w = omega (arith, ints)
