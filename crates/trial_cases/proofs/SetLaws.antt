-- The words of a set of items.
use Rattle.std.proofs.Common.{◌≡◌, ℕ, zero, suc, ◌^◌, ◌<◌, ◌≤◌, inl, inr, Bool, true, false, ◌&&◌, List, [], ◌∷◌, get_or, nat_lt, refl, sym, ap, ◌∙◌, arith}
use Rattle.std.proofs.Math.Dec.{lit≤}
use Rattle.std.proofs.lemmas.Bool.{cases_lt, lt-ltb}
use Rattle.std.specs.List.{list_all}
use Rattle.std.specs.Prelude.{nat_le}
use Rattle.bank_tables.specs.Items.{has, AreWords}
use Rattle.bank_tables.proofs.Bits.{same_sets}
use Rattle.form_model.proofs.Computed.{these, these_below, one_word, word_below}

-- ---- a set of items below n, which is at most 64
are_words : (word : ℕ) → word < 2 ^ 64 → AreWords (one_word word)
are_words word small = record { eight = refl; small = each }
  where
    each : (k : ℕ) → k < 8 → get_or (one_word word) k 0 < 2 ^ 64
    each zero w = small
    each (suc zero) w = lit≤ tt
    each (suc (suc zero)) w = lit≤ tt
    each (suc (suc (suc zero))) w = lit≤ tt
    each (suc (suc (suc (suc zero)))) w = lit≤ tt
    each (suc (suc (suc (suc (suc zero))))) w = lit≤ tt
    each (suc (suc (suc (suc (suc (suc zero)))))) w = lit≤ tt
    each (suc (suc (suc (suc (suc (suc (suc zero))))))) w = lit≤ tt
    each (suc (suc (suc (suc (suc (suc (suc (suc k)))))))) w = absurd (omega arith)

-- a test that fails wherever it would hold past n
none_past : (b : Bool) (n i : ℕ) → (b ≡ true → i < n) → n ≤ i → b ≡ false
none_past true n i within past = let w = within refl in absurd (omega arith)
none_past false n i within past = refl

pub word_is : (words items : List ℕ) (n word : ℕ) → AreWords words → ((i : ℕ) → has words i ≡ (nat_lt i 512 && these items i)) → nat_le n 64 ≡ true → n ≤ 512 → nat_lt word (2 ^ n) ≡ true → word < 2 ^ 64 → list_all (λ item. nat_lt item n) items ≡ true → ((i : ℕ) → i < n → has (one_word word) i ≡ these items i) → words ≡ one_word word
word_is words items n word is members few within bits small below same = same_sets words (one_word word) is (are_words word small) alike
  where
    and_false : (b : Bool) → (b && false) ≡ false
    and_false true = refl
    and_false false = refl

    alike : (i : ℕ) → has words i ≡ has (one_word word) i
    alike i =
        elim (cases_lt i n) [
          | inl low ↦ members i ∙ (ap (λ (b : Bool). b && these items i) (lt-ltb i 512 (omega arith)) ∙ sym (same i low))
          | inr past ↦
              members i
              ∙ ap (λ (b : Bool). nat_lt i 512 && b) (none_past (these items i) n i (these_below n items below i) past)
              ∙ (and_false (nat_lt i 512) ∙ sym (none_past (has (one_word word) i) n i (word_below n word few bits i) past))
        ]

-- the sets of plan A
pub zero_and_one : (words : List ℕ) → AreWords words → ((i : ℕ) → has words i ≡ (nat_lt i 512 && these (0 ∷ 1 ∷ []) i)) → words ≡ one_word 3
unfolding has
zero_and_one words is members = word_is words (0 ∷ 1 ∷ []) 2 3 is members refl (lit≤ tt) refl (lit≤ tt) refl same
  where
    same : (i : ℕ) → i < 2 → has (one_word 3) i ≡ these (0 ∷ 1 ∷ []) i
    same zero w = refl
    same (suc zero) w = refl
    same (suc (suc i)) w = absurd (omega arith)

pub two_and_five : (words : List ℕ) → AreWords words → ((i : ℕ) → has words i ≡ (nat_lt i 512 && these (2 ∷ 5 ∷ []) i)) → words ≡ one_word 36
unfolding has
two_and_five words is members = word_is words (2 ∷ 5 ∷ []) 6 36 is members refl (lit≤ tt) refl (lit≤ tt) refl same
  where
    same : (i : ℕ) → i < 6 → has (one_word 36) i ≡ these (2 ∷ 5 ∷ []) i
    same zero w = refl
    same (suc zero) w = refl
    same (suc (suc zero)) w = refl
    same (suc (suc (suc zero))) w = refl
    same (suc (suc (suc (suc zero)))) w = refl
    same (suc (suc (suc (suc (suc zero))))) w = refl
    same (suc (suc (suc (suc (suc (suc i)))))) w = absurd (omega arith)
