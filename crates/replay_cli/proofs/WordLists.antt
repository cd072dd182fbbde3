-- The words of a set of items have its items, and a set of items has one list of words.
use Rattle.std.proofs.Common.{◌≡◌, ℕ, zero, suc, ◌+◌, ◌-◌, ◌*◌, ◌/◌, ◌%◌, ◌^◌, ◌<◌, ◌==◌, cond, Bool, true, false, List, [], ◌∷◌, length, get_or, refl, sym, ap, ◌∙◌, arith, inl, inr, length-append}
use Rattle.std.specs.Int.{bit_at}
use Rattle.std.proofs.lemmas.Bool.{cases_eq, cases_lt, cases_Bool}
use Rattle.std.proofs.lemmas.Nat.Bits.{bit_at_cat_low, bit_at_cat_high}
use Rattle.std.proofs.lemmas.List.{get_or_append_left, get_or_at}
use Rattle.std.proofs.Math.Nat.{pow-suc}
use Rattle.bank_tables.specs.Items.{Set, has, AreWords}
use Rattle.bank_tables.proofs.Bits.{has_past, same_sets}
use Rattle.replay_cli.specs.Reading.{word_of, words_below}

-- ---- one word

word_small : (n : ℕ) (X : Set) (first : ℕ) → word_of n X first < 2 ^ n
unfolding word_of
word_small zero X first = omega arith
word_small (suc n) X first =
    let fewer = word_small n X first in
    elim (cases_Bool (X (first + n))) [ inl t ↦ rw t (omega (arith, pow-suc 2 n)) | inr f ↦ rw f (omega (arith, pow-suc 2 n)) ]

bit_alone : (b : Bool) → bit_at (cond b 1 0) 0 ≡ cond b 1 0
bit_alone true = refl
bit_alone false = refl

as_high : (n a : ℕ) (b : Bool) → a + cond b (2 ^ n) 0 ≡ cond b 1 0 * 2 ^ n + a
as_high n a true = omega arith
as_high n a false = omega arith

word_bits : (n : ℕ) (X : Set) (first j : ℕ) → j < n → bit_at (word_of n X first) j ≡ cond (X (first + j)) 1 0
unfolding word_of
word_bits zero X first j lt = absurd (omega arith)
word_bits (suc n) X first j lt =
    let below : word_of n X first < 2 ^ n = word_small n X first in
    ap (λ (m : ℕ). bit_at m j) (as_high n (word_of n X first) (X (first + n)))
    ∙ (elim (cases_eq j n) [
      | inl same ↦
          let e : j - n ≡ 0 = omega arith in
          bit_at_cat_high (cond (X (first + n)) 1 0) n (word_of n X first) j below (omega arith)
          ∙ ap (bit_at (cond (X (first + n)) 1 0)) e ∙ bit_alone (X (first + n)) ∙ ap (λ (k : ℕ). cond (X (first + k)) 1 0) (sym same)
      | inr other ↦
          let lower : j < n = omega (arith, other) in
          bit_at_cat_low (cond (X (first + n)) 1 0) n (word_of n X first) j lower ∙ word_bits n X first j lower
    ])

-- ---- many

words_len : (count : ℕ) (X : Set) → length (words_below count X) ≡ count
unfolding words_below
words_len zero X = refl
words_len (suc count) X = omega (arith, words_len count X, length-append (words_below count X) (word_of 64 X (64 * count) ∷ []))

words_at : (count : ℕ) (X : Set) (k : ℕ) → k < count → get_or (words_below count X) k 0 ≡ word_of 64 X (64 * k)
unfolding words_below
words_at zero X k lt = absurd (omega arith)
words_at (suc count) X k lt =
    let len = words_len count X in
    elim (cases_eq k count) [
      | inl same ↦ get_or_at (words_below count X) (word_of 64 X (64 * count)) [] 0 k (omega (arith, len)) ∙ ap (λ (n : ℕ). word_of 64 X (64 * n)) (sym same)
      | inr other ↦ get_or_append_left (words_below count X) (word_of 64 X (64 * count) ∷ []) 0 k (omega (arith, len, other)) ∙ words_at count X k (omega (arith, other))
    ]

-- ---- a set of items

pub are_words : (X : Set) → AreWords (words_below 8 X)
are_words X = record {
  eight = words_len 8 X;
  small = λ k lt. rw (words_at 8 X k lt) (word_small 64 X (64 * k));
}

is_bit : (b : Bool) → (cond b 1 0 == 1) ≡ b
is_bit true = refl
is_bit false = refl

pub has_words : (X : Set) (i : ℕ) → i < 512 → has (words_below 8 X) i ≡ X i
unfolding has
has_words X i lt =
    let word : i / 64 < 8 = omega arith in
    let place : i % 64 < 64 = omega arith in
    let again : 64 * (i / 64) + i % 64 ≡ i = omega arith in
    rw (words_at 8 X (i / 64) word, word_bits 64 X (64 * (i / 64)) (i % 64) place, again) (is_bit (X i))

-- the items of a set determine its words
pub same_words : (words : List ℕ) (X : Set) → AreWords words → ((i : ℕ) → i < 512 → has words i ≡ X i) → words ≡ words_below 8 X
same_words words X are same =
    same_sets words (words_below 8 X) are (are_words X) (λ i. elim (cases_lt i 512) [
      | inl lt ↦ same i lt ∙ sym (has_words X i lt)
      | inr past ↦ has_past words i are.eight past ∙ sym (has_past (words_below 8 X) i (words_len 8 X) past)
    ])
