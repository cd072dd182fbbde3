-- Sets of items in words: no member, unknown members, first members.
use Rattle.std.proofs.Common.{◌≡◌, ℕ, zero, suc, cond, ap, ◌+◌, ◌*◌, ◌/◌, ◌%◌, ◌<◌, ◌≤◌, ◌&&◌, not, Bool, true, false, List, length, refl, sym, ◌∙◌, arith, inl, inr}
use Rattle.std.specs.Prelude.{IsTrue, nat_le, MatchOption, is_some, Option, Some, None, ◌↔◌}
use Rattle.std.proofs.lemmas.List.{get_or_past}
use Rattle.std.proofs.lemmas.Nat.Bits.{bit_at-zero}
use Rattle.std.proofs.lemmas.Bool.{cases_lt, leb-true, le-leb, not-false, not_from_false, and_parts, and_from}
use Rattle.std.proofs.Math.Bool.{true≢false}
use Rattle.bank_tables.specs.Items.{Set, has, IsLowest}
use Rattle.bank_tables.specs.Sums.{count_in, size_of}
use Rattle.bank_tables.specs.Tables.{Tables, size}
use Rattle.bank_tables.specs.Validity.{HoldsItems}
use Rattle.bank_tables.proofs.Bits.{size_of-below}
use Rattle.form_model.proofs.SumLaws.{either, any_intro, any_elim}
use Rattle.constraint_model.specs.Faults.{is_empty, has_unknown}

-- a number past the words is not in the set
past_words : (words : List ℕ) (i : ℕ) → 64 * length words ≤ i → has words i ≡ false
unfolding has
past_words words i past =
    let beyond : length words ≤ i / 64 = omega arith in
    rw (get_or_past words (i / 64) 0 beyond, bit_at-zero (i % 64)) refl

within_words : (words : List ℕ) (i : ℕ) → has words i ≡ true → i < 64 * length words
within_words words i e = elim (cases_lt i (64 * length words)) [
  | inl lt ↦ lt
  | inr past ↦ absurd (true≢false (sym e ∙ past_words words i past))
]

pub not_true : (b : Bool) → (b ≡ true → ⊥) → b ≡ false
not_true true h = absurd (h refl)
not_true false h = refl

-- ---- no member
pub empty_from : (words : List ℕ) → ((i : ℕ) → has words i ≡ false) → is_empty words ≡ true
unfolding is_empty
empty_from words none = not_from_false _ (not_true _ (λ some. let (i, lt, e) = any_elim (64 * length words) (has words) some in true≢false (sym e ∙ none i)))

pub not_empty_from : (words : List ℕ) (i : ℕ) → has words i ≡ true → is_empty words ≡ false
unfolding is_empty
not_empty_from words i e = rw (any_intro (64 * length words) (has words) i (within_words words i e) e) refl

pub member_of : (words : List ℕ) → is_empty words ≡ false → (i : ℕ) × (has words i ≡ true)
unfolding is_empty
member_of words e = let (i, lt, h) = any_elim (64 * length words) (has words) (not-false _ e) in (i, h)

-- ---- members that are no items of the bank
pub unknown_from : (b : Tables) (words : List ℕ) (i : ℕ) → has words i ≡ true → size b ≤ i → has_unknown b words ≡ true
unfolding has_unknown
unknown_from b words i e past = any_intro (64 * length words) (λ i. has words i && nat_le (size b) i) i (within_words words i e) (and_from (has words i) (nat_le (size b) i) e (le-leb _ _ past))

pub none_unknown : (b : Tables) (words : List ℕ) → has_unknown b words ≡ false → HoldsItems b (has words)
none_unknown b words e i member = elim (cases_lt i (size b)) [
  | inl lt ↦ lt
  | inr past ↦ absurd (true≢false (sym (unknown_from b words i member past) ∙ e))
]

pub no_unknown_from : (b : Tables) (words : List ℕ) → HoldsItems b (has words) → has_unknown b words ≡ false
unfolding has_unknown
no_unknown_from b words h = not_true _ (λ some.
    let (i, lt, e) = any_elim (64 * length words) (λ i. has words i && nat_le (size b) i) some in
    let parts = and_parts (has words i) (nat_le (size b) i) e in
    let below : i < size b = h i parts.0 in
    let above : size b ≤ i = leb-true (size b) i parts.1 in
    omega arith)

-- ---- the tests, by the answers of a set's calls
pub empty_by_first : (words : List ℕ) (first : Option ℕ) (none : Bool) → MatchOption first ((i : ℕ) → has words i ≡ false) (λ x. IsLowest (has words) x) → is_some first ≡ not none → none ≡ is_empty words
empty_by_first words None true h e = sym (empty_from words h)
empty_by_first words None false h e = absurd cc
empty_by_first words (Some x) true h e = absurd cc
empty_by_first words (Some x) false h e = sym (not_empty_from words x h.member)

pub unknown_by_below : (b : Tables) (words : List ℕ) (below : Bool) → (IsTrue below ↔ ((i : ℕ) → IsTrue (has words i) → i < size b)) → not below ≡ has_unknown b words
unknown_by_below b words true h = sym (no_unknown_from b words (h.0 refl))
unknown_by_below b words false h = elim (either (has_unknown b words)) [
  | inl some ↦ sym some
  | inr none ↦ absurd (true≢false (sym (h.1 (none_unknown b words none))))
]

-- ---- the members that two sets share
count-same : (n : ℕ) (X p both : Set) → ((i : ℕ) → both i ≡ (X i && p i)) → count_in n both (λ _. true) ≡ count_in n X p
count-same zero X p both h = refl
count-same (suc n) X p both h = rw (count-same n X p both h, h n) (ap (λ (k : ℕ). count_in n X p + k) (last (X n) (p n)))
  where
    last : (a b : Bool) → ◌≡◌ {A = ℕ} (cond (a && b) 1 0) (cond a (cond b 1 0) 0)
    last true b = refl
    last false b = refl

count_of_both : (n : ℕ) (X p both : Set) → n ≤ 512 → ((i : ℕ) → X i ≡ true → i < n) → ((i : ℕ) → both i ≡ (X i && p i)) → size_of both ≡ count_in n X p
count_of_both n X p both few below h =
    size_of-below n both few (λ i past. not_true (both i) (λ e. let lt : i < n = below i (and_parts (X i) (p i) (sym (h i) ∙ e)).0 in omega arith))
    ∙ count-same n X p both h

both_ways : (n : ℕ) (X Y : Set) → count_in n X Y ≡ count_in n Y X
both_ways zero X Y = refl
both_ways (suc n) X Y = omega (arith, both_ways n X Y, one (X n) (Y n))
  where
    one : (x y : Bool) → ◌≡◌ {A = ℕ} (cond x (cond y 1 0) 0) (cond y (cond x 1 0) 0)
    one true true = refl
    one true false = refl
    one false true = refl
    one false false = refl

-- the members that items of the bank and another set have in common
pub count_of_meet : (n : ℕ) (X Y both : Set) → n ≤ 512 → ((i : ℕ) → X i ≡ true → i < n) → ((i : ℕ) → both i ≡ (X i && Y i)) → size_of both ≡ count_in n Y X
count_of_meet n X Y both few below h = count_of_both n X Y both few below h ∙ both_ways n X Y
