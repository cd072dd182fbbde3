-- Each set of items below n is that of a mask below 2 ^ n, which has as many ones as the set has
-- items.
use Rattle.std.proofs.Common.{◌≡◌, ℕ, zero, suc, ◌+◌, ◌-◌, ◌*◌, ◌/◌, ◌%◌, ◌^◌, ◌<◌, ◌==◌, Bool, true, false, cond, refl, sym, ap, ap₂, ◌∙◌, arith, inl, inr, ◌⊎◌, pow-suc, add_assoc, zero-add, add-zero}
use Rattle.std.proofs.lemmas.Bool.{lt-ltb, le-ltb, cases_lt, cases_eq}
use Rattle.std.proofs.lemmas.Nat.Bits.{bit_at_cat_low, bit_at_cat_high, bit_at-suc, bit_at_lowest}
use Rattle.std.specs.Int.{bit_at}
use lib.Count.{ones, ones_step}
use Rattle.bank_tables.specs.Items.{Set}
use Rattle.bank_tables.specs.Sums.{sum_in, count_in}
use Rattle.form_model.proofs.SumLaws.{either}
use Rattle.form_enumeration.specs.Enumeration.{masked}

-- the mask of the members below n
abbrev pub mask_of : ℕ → Set → ℕ
mask_of n X = sum_in n X (λ i. 2 ^ i)

digit : Bool → ℕ
digit b = cond b 1 0

top : (b : Bool) (k : ℕ) → cond b (2 ^ k) 0 ≡ digit b * 2 ^ k
unfolding digit
top true k = omega arith
top false k = omega arith

pub mask_below : (n : ℕ) (X : Set) → mask_of n X < 2 ^ n
mask_below zero X = omega arith
mask_below (suc n) X = let rest = mask_below n X in let e : 2 ^ suc n ≡ 2 * 2 ^ n = pow_double n in elim (either (X n)) [ inl in_X ↦ rw in_X (omega arith) | inr not_X ↦ rw not_X (omega arith) ]
  where
    pow_double : (n : ℕ) → 2 ^ suc n ≡ 2 * 2 ^ n
    pow_double n = omega (arith, pow-suc 2 n)

digit_bit : (b : Bool) → ◌≡◌ {A = ℕ} (bit_at (digit b) 0) (cond b 1 0)
unfolding digit
digit_bit true = refl
digit_bit false = refl

last_or_before : (i n : ℕ) → i < suc n → (i < n) ⊎ (i ≡ n)
last_or_before i n h = grind arith

pub bit_of_mask : (n : ℕ) (X : Set) (i : ℕ) → i < n → bit_at (mask_of n X) i ≡ cond (X i) 1 0
bit_of_mask zero X i w = absurd (omega arith)
bit_of_mask (suc n) X i w =
    let e : mask_of (suc n) X ≡ digit (X n) * 2 ^ n + mask_of n X = omega (arith, top (X n) n) in
    elim (last_or_before i n w) [
      | inl before ↦ ap (λ (m : ℕ). bit_at m i) e ∙ bit_at_cat_low (digit (X n)) n (mask_of n X) i before ∙ bit_of_mask n X i before
      | inr at ↦
          let z : i - n ≡ 0 = omega arith in
          ap (λ (m : ℕ). bit_at m i) e ∙ bit_at_cat_high (digit (X n)) n (mask_of n X) i (mask_below n X) (omega arith) ∙ ap (bit_at (digit (X n))) z ∙ digit_bit (X n) ∙ ap (λ (k : ℕ). cond (X k) 1 0) (sym at)
    ]

digit_test : (b : Bool) → (cond b 1 0 == 1) ≡ b
digit_test true = refl
digit_test false = refl

-- a set of numbers below n is that of its mask
pub masked_mask : (n : ℕ) (X : Set) → ((i : ℕ) → X i ≡ true → i < n) → (i : ℕ) → masked (mask_of n X) n i ≡ X i
masked_mask n X below i =
    elim (cases_lt i n) [
      | inl within ↦ rw (lt-ltb i n within, bit_of_mask n X i within) (digit_test (X i))
      | inr past ↦ rw (le-ltb i n past) (elim (either (X i)) [ inl in_X ↦ absurd (omega (arith, below i in_X)) | inr not_X ↦ sym not_X ])
    ]

-- ---- the ones of a mask
count_same : (n : ℕ) (X Y : Set) → ((i : ℕ) → i < n → X i ≡ Y i) → count_in n X (λ _. true) ≡ count_in n Y (λ _. true)
count_same zero X Y same = refl
count_same (suc n) X Y same = ap₂ (λ (x : ℕ) (b : Bool). x + cond b 1 0) (count_same n X Y (λ i h. same i (omega arith))) (same n (omega arith))

-- the first number apart
count_front : (n : ℕ) (X : Set) → count_in (suc n) X (λ _. true) ≡ cond (X 0) 1 0 + count_in n (λ i. X (suc i)) (λ _. true)
count_front zero X = rw (zero-add, add-zero) refl
count_front (suc n) X = ap (λ (x : ℕ). x + cond (X (suc n)) 1 0) (count_front n X) ∙ add_assoc (cond (X 0) 1 0) _ _

ones_zero : ones 0 ≡ 0
unfolding ones
ones_zero = refl

abbrev bit_of : ℕ → Set
bit_of n i = bit_at n i == 1

parity : (n : ℕ) → n % 2 ≡ cond (bit_of n 0) 1 0
parity n = rw (bit_at_lowest n) (elim (cases_eq (n % 2) 0) [ inl z ↦ rw z refl | inr o ↦ (let k : n % 2 ≡ 1 = omega arith in rw k refl) ])

-- the ones of a number are its bits
ones_bits : (m n : ℕ) → n < 2 ^ m → ones n ≡ count_in m (bit_of n) (λ _. true)
ones_bits zero n h = let z : n ≡ 0 = omega arith in rw z ones_zero
ones_bits (suc m) n h =
    let small : n / 2 < 2 ^ m = omega arith in
    ones_step n
    ∙ (ap₂ (λ x y. x + y) (parity n) (ones_bits m (n / 2) small
    ∙ count_same m (bit_of (n / 2)) (λ i. bit_of n (suc i)) (λ i _. ap (λ (b : ℕ). b == 1) (sym (bit_at-suc n i))))
    ∙ sym (count_front m (bit_of n)))

pub ones_of_mask : (n : ℕ) (X : Set) → ones (mask_of n X) ≡ count_in n X (λ _. true)
ones_of_mask n X = ones_bits n (mask_of n X) (mask_below n X) ∙ count_same n (bit_of (mask_of n X)) X (λ i w. ap (λ (b : ℕ). b == 1) (bit_of_mask n X i w) ∙ digit_test (X i))
