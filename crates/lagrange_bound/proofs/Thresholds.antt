-- Thresholds of the greatest of some numbers.
use Rattle.std.proofs.Common.{◌≡◌, ℕ, zero, suc, ◌<◌, ◌≤◌, Bool, false, cond, List, inl, inr, refl, sym, ap, ◌∙◌, arith}
use Rattle.std.specs.Prelude.{ℤ, pos, neg_ℤ, ◌+ℤ◌, ◌≤ℤ◌, ◌<ℤ◌, int_le, int_lt}
use Rattle.std.proofs.lemmas.Int.{ints}
use Rattle.form_model.proofs.SumLaws.{either}
use Rattle.certificate_model.specs.Ranges.{at}
use Rattle.lagrange_bound.specs.Ranges.{item_top}
use Rattle.lagrange_bound.specs.Fills.{at_least, above, IsThreshold}

abbrev count : Bool → ℕ
count b = cond b 1 0

-- what is more than a number is at least the next
above_is : (n : ℕ) (xs : List ℤ) (t : ℤ) → above n xs t ≡ at_least n xs (t +ℤ pos 1)
above_is zero xs t = refl
above_is (suc n) xs t = omega (arith, above_is n xs t, ap count (same (at xs n)))
  where
    same : (z : ℤ) → int_lt t z ≡ int_le (t +ℤ pos 1) z
    same z =
        elim (either (int_lt t z)) [
          | inl less ↦ elim (either (int_le (t +ℤ pos 1) z)) [ inl le ↦ less ∙ sym le | inr more ↦ absurd (omega (arith, ints)) ]
          | inr not_less ↦ elim (either (int_le (t +ℤ pos 1) z)) [ inl le ↦ absurd (omega (arith, ints)) | inr more ↦ not_less ∙ sym more ]
        ]

more_is_less : (n : ℕ) (xs : List ℤ) (t : ℤ) → above n xs t ≤ at_least n xs t
more_is_less zero xs t = omega arith
more_is_less (suc n) xs t = omega (arith, more_is_less n xs t, one (at xs n))
  where
    one : (z : ℤ) → ◌≤◌ (cond (int_lt t z) 1 0) (cond (int_le t z) 1 0)
    one z =
        elim (either (int_lt t z)) [
          | inl less ↦ elim (either (int_le t z)) [ inl le ↦ rw (less, le) (omega arith) | inr more ↦ absurd (omega (arith, ints)) ]
          | inr not_less ↦ rw not_less (omega arith)
        ]

pub exact : (n : ℕ) (xs : List ℤ) (k : ℕ) (t : ℤ) → neg_ℤ (pos item_top) ≤ℤ t → t ≤ℤ pos item_top → k ≡ at_least n xs t → IsThreshold n xs k t
exact n xs k t low high e = record { low = low; high = high; few = omega (arith, more_is_less n xs t); enough = omega arith }

pub halved : (n : ℕ) (xs : List ℤ) (k : ℕ) (t : ℤ) → neg_ℤ (pos item_top) ≤ℤ t → t ≤ℤ pos item_top → k ≤ at_least n xs t → at_least n xs (t +ℤ pos 1) ≤ k → IsThreshold n xs k t
halved n xs k t low high enough few = record { low = low; high = high; few = omega (arith, above_is n xs t); enough = enough }

-- none is more than the greatest
pub none_past : (n : ℕ) (xs : List ℤ) (t : ℤ) → ((i : ℕ) → i < n → at xs i <ℤ t) → at_least n xs t ≡ 0
none_past zero xs t h = refl
none_past (suc n) xs t h = omega (arith, none_past n xs t (λ i w. h i (omega arith)), ap count (not_least (at xs n) (h n (omega arith))))
  where
    not_least : (z : ℤ) → z <ℤ t → int_le t z ≡ false
    not_least z less = elim (either (int_le t z)) [ inl le ↦ absurd (omega (arith, ints)) | inr more ↦ more ]

-- all that are at least some number are at least a number that none of those is below
pub all_from : (n : ℕ) (xs : List ℤ) (s t : ℤ) → ((i : ℕ) → i < n → s ≤ℤ at xs i → t ≤ℤ at xs i) → at_least n xs s ≤ at_least n xs t
all_from zero xs s t h = omega arith
all_from (suc n) xs s t h = omega (arith, all_from n xs s t (λ i w. h i (omega arith)), one (at xs n) (h n (omega arith)))
  where
    one : (z : ℤ) → (s ≤ℤ z → t ≤ℤ z) → ◌≤◌ (cond (int_le s z) 1 0) (cond (int_le t z) 1 0)
    one z k =
        elim (either (int_le s z)) [
          | inl le ↦ let here : s ≤ℤ z = omega (arith, ints) in let there = k here in elim (either (int_le t z)) [ inl more ↦ rw (le, more) (omega arith) | inr not_less ↦ absurd (omega (arith, ints)) ]
          | inr not_less ↦ rw not_less (omega arith)
        ]
