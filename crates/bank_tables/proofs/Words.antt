-- The words of sets, taken together.
use Rattle.std.proofs.Common.{◌≡◌, ℕ, zero, suc, ◌+◌, ◌-◌, ◌*◌, ◌/◌, ◌%◌, ◌^◌, ◌<◌, ◌≤◌, ◌==◌, ◌||◌, ◌&&◌, not, cond, Bool, true, false, List, length, get_or, set, refl, sym, ap, ap₂, ◌∙◌, arith, inl, inr, bit_and, bit_or, w64, ◌⊎◌, ◌≢◌, min, add_assoc, zero-add, add-zero, add-suc}
use Rattle.std.proofs.lemmas.Bool.{cases_eq, eq-eqb, cases_Bool, eqb-true, cases_lt}
use Rattle.std.proofs.lemmas.Bool.Decides.{eqb_tells}
use Rattle.std.proofs.lemmas.List.{get_or-set_same, get_or-set_other}
use Rattle.std.proofs.lemmas.Nat.Bits.{bit_at_clear_same, bit_at_clear_other, bit_at_or, bit_at_and, bit_at_not, bit_at-zero, bit_at-lt, bit_at_above, bit_at_lowest, bit_at-suc, bit_at-trailing_zeros, same_from_bits}
use Rattle.std.proofs.lemmas.Nat.{shr-shr, shr_le}
use Rattle.std.specs.Int.{bit_at, bit_not, trailing_zeros}
use lib.Count.{ones, ones_step}
use Rattle.bank_tables.specs.Items.{Set, has, IsLowest, IsLowestFrom}
use Rattle.bank_tables.specs.Sums.{count_in}

-- a bit is cleared in its word, and no other bit changes
pub has_clear : (ws : List ℕ) (item i : ℕ) → item / 64 < length ws → has (set ws (item / 64) (bit_and (get_or ws (item / 64) 0) (bit_not w64 (1 * 2 ^ (item % 64) % 2 ^ 64)))) i ≡ (not (i == item) && has ws i)
unfolding has
has_clear ws item i within =
    let small : item % 64 < 64 = omega arith in
    elim (eqb_tells i item) [
      | inl (e, same) ↦
          rw (e, same, get_or-set_same ws (item / 64) (bit_and (get_or ws (item / 64) 0) (bit_not w64 (1 * 2 ^ (item % 64) % 2 ^ 64))) 0 within, bit_at_clear_same w64 (get_or ws (item / 64) 0) (item % 64) small) refl
      | inr (e, other) ↦
          elim (cases_eq (i / 64) (item / 64)) [
            | inl word ↦
                let bit : i % 64 ≢ item % 64 = omega arith in
                rw (e, word, get_or-set_same ws (item / 64) (bit_and (get_or ws (item / 64) 0) (bit_not w64 (1 * 2 ^ (item % 64) % 2 ^ 64))) 0 within, bit_at_clear_other w64 (get_or ws (item / 64) 0) (item % 64) small (i % 64) (omega arith) bit) refl
            | inr word ↦ rw (e, get_or-set_other ws (item / 64) (i / 64) (bit_and (get_or ws (item / 64) 0) (bit_not w64 (1 * 2 ^ (item % 64) % 2 ^ 64))) 0 word) refl
          ]
    ]

-- a bit is 0 or 1
bit_cases : (n i : ℕ) → (bit_at n i ≡ 0) ⊎ (bit_at n i ≡ 1)
bit_cases n i = let h = bit_at-lt n i in elim (cases_eq (bit_at n i) 0) [ inl z ↦ inl z | inr o ↦ inr (omega arith) ]

pub has_or : (a b c : List ℕ) (i : ℕ) → get_or c (i / 64) 0 ≡ bit_or (get_or a (i / 64) 0) (get_or b (i / 64) 0) → has c i ≡ (has a i || has b i)
unfolding has
has_or a b c i e =
    let x = get_or a (i / 64) 0 in
    let y = get_or b (i / 64) 0 in
    rw (e, bit_at_or x y (i % 64))
    (elim (bit_cases x (i % 64)) [
      | inl p ↦ elim (bit_cases y (i % 64)) [ inl q ↦ rw (p, q) refl | inr q ↦ rw (p, q) refl ]
      | inr p ↦ elim (bit_cases y (i % 64)) [ inl q ↦ rw (p, q) refl | inr q ↦ rw (p, q) refl ]
    ])

pub has_and : (a b c : List ℕ) (i : ℕ) → get_or c (i / 64) 0 ≡ bit_and (get_or a (i / 64) 0) (get_or b (i / 64) 0) → has c i ≡ (has a i && has b i)
unfolding has
has_and a b c i e =
    let x = get_or a (i / 64) 0 in
    let y = get_or b (i / 64) 0 in
    rw (e, bit_at_and x y (i % 64))
    (elim (bit_cases x (i % 64)) [
      | inl p ↦ elim (bit_cases y (i % 64)) [ inl q ↦ rw (p, q) refl | inr q ↦ rw (p, q) refl ]
      | inr p ↦ elim (bit_cases y (i % 64)) [ inl q ↦ rw (p, q) refl | inr q ↦ rw (p, q) refl ]
    ])

pub has_and_not : (a b c : List ℕ) (i : ℕ) → get_or b (i / 64) 0 < 2 ^ 64 → get_or c (i / 64) 0 ≡ bit_and (get_or a (i / 64) 0) (bit_not w64 (get_or b (i / 64) 0)) → has c i ≡ (has a i && not (has b i))
unfolding has
has_and_not a b c i fits e =
    let x = get_or a (i / 64) 0 in
    let y = get_or b (i / 64) 0 in
    rw (e, bit_at_and x (bit_not w64 y) (i % 64), bit_at_not w64 y (i % 64) fits (omega arith))
    (elim (bit_cases x (i % 64)) [
      | inl p ↦ elim (bit_cases y (i % 64)) [ inl q ↦ rw (p, q) refl | inr q ↦ rw (p, q) refl ]
      | inr p ↦ elim (bit_cases y (i % 64)) [ inl q ↦ rw (p, q) refl | inr q ↦ rw (p, q) refl ]
    ])

-- the words' bits decide whether the members are within
pub sub_words : (a b : List ℕ) (i : ℕ) → bit_and (get_or a (i / 64) 0) (get_or b (i / 64) 0) ≡ get_or a (i / 64) 0 → has a i ≡ true → has b i ≡ true
unfolding has
sub_words a b i e h =
    let x = get_or a (i / 64) 0 in
    let y = get_or b (i / 64) 0 in
    let one : bit_at x (i % 64) ≡ 1 = eqb-true _ _ h in
    let m : bit_at x (i % 64) ≡ min (bit_at x (i % 64)) (bit_at y (i % 64)) = ap (λ n. bit_at n (i % 64)) (sym e) ∙ bit_at_and x y (i % 64) in
    let l = bit_at-lt y (i % 64) in
    eq-eqb _ _ (omega arith)

at_word : (words : List ℕ) (k j : ℕ) → j < 64 → has words (64 * k + j) ≡ (bit_at (get_or words k 0) j == 1)
unfolding has
at_word words k j h =
    let place : (64 * k + j) / 64 ≡ k = omega arith in
    let bit : (64 * k + j) % 64 ≡ j = omega arith in
    rw (place, bit) refl

-- members that b has too keep the word
pub word_within : (a b : List ℕ) (k : ℕ) → get_or a k 0 < 2 ^ 64 → ((i : ℕ) → has a i ≡ true → has b i ≡ true) → bit_and (get_or a k 0) (get_or b k 0) ≡ get_or a k 0
word_within a b k fits sub =
    let x = get_or a k 0 in
    let y = get_or b k 0 in
    same_from_bits _ _ (λ j. bit_at_and x y j ∙ (elim (cases_lt j 64) [
      | inl h ↦ (elim (bit_cases x j) [
        | inl z ↦ rw z (let l : min 0 (bit_at y j) ≡ 0 = omega arith in l)
        | inr o ↦ (let t = sub (64 * k + j) (at_word a k j h ∙ eq-eqb _ _ o) in let u : bit_at y j ≡ 1 = eqb-true _ _ (sym (at_word b k j h) ∙ t) in omega arith)
      ])
      | inr h ↦ rw (bit_at_above x 64 j fits h) (let l : min 0 (bit_at y j) ≡ 0 = omega arith in l)
    ]))

-- the lowest bit of the first word that isn't 0
pub first_in : (words : List ℕ) (k : ℕ) → 0 < get_or words k 0 → get_or words k 0 < 2 ^ 64 → ((j : ℕ) → j < k → get_or words j 0 ≡ 0)
    → (trailing_zeros w64 (get_or words k 0) < 64) × IsLowest (has words) (64 * k + trailing_zeros w64 (get_or words k 0))
unfolding has
first_in words k pos fits none =
    let x = get_or words k 0 in
    let t = bit_at-trailing_zeros w64 x pos fits in (
      t.0,
      record {
        member = at_word words k (trailing_zeros w64 x) t.0 ∙ eq-eqb _ _ t.1;
        below = λ i h. elim (cases_lt (i / 64) k) [
          | inl below ↦ rw (none (i / 64) below, bit_at-zero (i % 64)) refl
          | inr here ↦ (let e : i / 64 ≡ k = omega (arith, t.0) in let z = t.2 (i % 64) (omega (arith, t.0)) in rw (e, z) refl)
        ];
      },
    )

pub has_none : (words : List ℕ) (i : ℕ) → get_or words (i / 64) 0 ≡ 0 → has words i ≡ false
unfolding has
has_none words i e = rw (e, bit_at-zero (i % 64)) refl

-- ---- from a number on
shifted : (n k j : ℕ) → bit_at (n / 2 ^ k) j ≡ bit_at n (k + j)
shifted n k j = ap (λ x. x % 2) (shr-shr n k j)

-- the word of a number, shifted down to it
abbrev pub word_from : List ℕ → ℕ → ℕ
word_from words from = get_or words (from / 64) 0 / 2 ^ (from % 64)

in_word : (words : List ℕ) (from i : ℕ) → from ≤ i → i / 64 ≡ from / 64 → has words i ≡ (bit_at (word_from words from) (i - from) == 1)
unfolding has
in_word words from i high same =
    let bit : i % 64 ≡ from % 64 + (i - from) = omega arith in
    ap (λ (m : ℕ). bit_at (get_or words m 0) (i % 64) == 1) same
    ∙ ap (λ (j : ℕ). bit_at (get_or words (from / 64) 0) j == 1) bit
    ∙ ap (λ (b : ℕ). b == 1) (sym (shifted (get_or words (from / 64) 0) (from % 64) (i - from)))

pub none_from : (words : List ℕ) (from i : ℕ) → from ≤ i → word_from words from ≡ 0 → (from / 64 < i / 64 → get_or words (i / 64) 0 ≡ 0) → has words i ≡ false
none_from words from i high none after =
    elim (cases_lt (from / 64) (i / 64)) [
      | inl later ↦ has_none words i (after later)
      | inr here ↦
          let same : i / 64 ≡ from / 64 = omega arith in
          in_word words from i high same ∙ rw (none, bit_at-zero (i - from)) refl
    ]

-- the lowest bit of the word from the number on
pub first_in_word : (words : List ℕ) (from : ℕ) → 0 < word_from words from → get_or words (from / 64) 0 < 2 ^ 64 → (from % 64 + trailing_zeros w64 (word_from words from) < 64) × IsLowestFrom (has words) from (from + trailing_zeros w64 (word_from words from))
first_in_word words from some fits =
    let x = word_from words from in
    let small : x < 2 ^ 64 = omega (arith, shr_le (get_or words (from / 64) 0) (from % 64)) in
    let t = bit_at-trailing_zeros w64 x some small in
    let n = trailing_zeros w64 x in
    let one : bit_at (get_or words (from / 64) 0) (from % 64 + n) ≡ 1 = sym (shifted (get_or words (from / 64) 0) (from % 64) n) ∙ t.1 in
    let within : from % 64 + n < 64 = elim (cases_lt (from % 64 + n) 64) [ inl low ↦ low | inr past ↦ absurd (omega (arith, one, bit_at_above (get_or words (from / 64) 0) 64 (from % 64 + n) fits past)) ] in (
      within,
      record {
        member =
            let same : (from + n) / 64 ≡ from / 64 = omega (arith, within) in
            let back : from + n - from ≡ n = omega arith in
            in_word words from (from + n) (omega arith) same ∙ rw back (eq-eqb _ _ t.1);
        high = omega arith;
        below = λ i h w.
            let same : i / 64 ≡ from / 64 = omega (arith, within) in
            in_word words from i h same ∙ rw (t.2 (i - from) (omega arith)) refl;
      },
    )

-- the lowest bit of the first word after it that isn't 0
pub first_after : (words : List ℕ) (from k : ℕ) → from / 64 < k → 0 < get_or words k 0 → get_or words k 0 < 2 ^ 64 → word_from words from ≡ 0 → ((j : ℕ) → from / 64 < j → j < k → get_or words j 0 ≡ 0)
    → (trailing_zeros w64 (get_or words k 0) < 64) × IsLowestFrom (has words) from (64 * k + trailing_zeros w64 (get_or words k 0))
unfolding has
first_after words from k later some fits none between =
    let x = get_or words k 0 in
    let t = bit_at-trailing_zeros w64 x some fits in (
      t.0,
      record {
        member = at_word words k (trailing_zeros w64 x) t.0 ∙ eq-eqb _ _ t.1;
        high = omega (arith, later);
        below = λ i h w. elim (cases_lt (i / 64) k) [
          | inl before ↦ none_from words from i h none (λ after. between (i / 64) after before)
          | inr here ↦ (let e : i / 64 ≡ k = omega (arith, t.0) in let z = t.2 (i % 64) (omega (arith, t.0)) in rw (e, z) refl)
        ];
      },
    )

-- ---- counting word by word

abbrev pub every : Set
every = λ _. true

count_cong : (n : ℕ) (X Y : Set) → ((i : ℕ) → i < n → X i ≡ Y i) → count_in n X every ≡ count_in n Y every
count_cong zero X Y same = refl
count_cong (suc n) X Y same = ap₂ (λ (x : ℕ) (b : Bool). x + cond b 1 0) (count_cong n X Y (λ i h. same i (omega arith))) (same n (omega arith))

count_split : (m n : ℕ) (X : Set) → count_in (m + n) X every ≡ count_in m X every + count_in n (λ i. X (m + i)) every
count_split m zero X = rw (add-zero, add-zero) refl
count_split m (suc n) X = let h = count_split m n X in rw add-suc (ap (λ (x : ℕ). x + cond (X (m + n)) 1 0) h ∙ add_assoc (count_in m X every) _ _)

-- the first number apart
count_front : (n : ℕ) (X : Set) → count_in (suc n) X every ≡ cond (X 0) 1 0 + count_in n (λ i. X (suc i)) every
count_front zero X = rw (zero-add, add-zero) refl
count_front (suc n) X = ap (λ (x : ℕ). x + cond (X (suc n)) 1 0) (count_front n X) ∙ add_assoc (cond (X 0) 1 0) _ _

ones_zero : ones 0 ≡ 0
unfolding ones
ones_zero = refl

abbrev pub bit_of : ℕ → Set
bit_of n i = bit_at n i == 1

parity : (n : ℕ) → n % 2 ≡ cond (bit_of n 0) 1 0
parity n = rw (bit_at_lowest n) (elim (cases_eq (n % 2) 0) [ inl z ↦ rw z refl | inr o ↦ (let k : n % 2 ≡ 1 = omega arith in rw k refl) ])

-- the ones of a number are its bits
ones_bits : (m n : ℕ) → n < 2 ^ m → ones n ≡ count_in m (bit_of n) every
ones_bits zero n h = let z : n ≡ 0 = omega arith in rw z ones_zero
ones_bits (suc m) n h =
    let small : n / 2 < 2 ^ m = omega arith in
    ones_step n
    ∙ (ap₂ (λ x y. x + y) (parity n) (ones_bits m (n / 2) small
    ∙ count_cong m (bit_of (n / 2)) (λ i. bit_of n (suc i)) (λ i _. ap (λ (b : ℕ). b == 1) (sym (bit_at-suc n i))))
    ∙ sym (count_front m (bit_of n)))

-- a word more
pub count_word : (words : List ℕ) (k : ℕ) → get_or words k 0 < 2 ^ 64 → count_in (64 * (k + 1)) (has words) every ≡ count_in (64 * k) (has words) every + ones (get_or words k 0)
count_word words k fits =
    let more : 64 * (k + 1) ≡ 64 * k + 64 = omega arith in
    rw more (count_split (64 * k) 64 (has words) ∙ ap (λ (x : ℕ). count_in (64 * k) (has words) every + x)
    (count_cong 64 (λ i. has words (64 * k + i)) (bit_of (get_or words k 0)) (λ i h. at_word words k i h)
    ∙ sym (ones_bits 64 (get_or words k 0) fits)))

pub count_le : (n : ℕ) (X : Set) → count_in n X every ≤ n
count_le zero X = omega arith
count_le (suc n) X = let h = count_le n X in elim (cases_Bool (X n)) [ inl t ↦ rw t (omega arith) | inr f ↦ rw f (omega arith) ]
