-- Sets that have no item in common, one set after the other.
use Rattle.std.proofs.Common.{◌≡◌, ℕ, ◌+◌, ◌<◌, ◌⊎◌, inl, inr, Bool, true, false, ◌&&◌, ◌||◌, Option, Some, None, MatchOption, is_some, List, [], length, get_or, refl, sym, ap, ◌∙◌, arith, add-one}
use Rattle.std.proofs.lemmas.Bool.{and_from}
use Rattle.std.proofs.lemmas.List.{get_or_read_under}
use Rattle.std.proofs.Math.Bool.{true≢false}
use Rattle.bank_tables.specs.Items.{Set, has, IsLowest}
use Rattle.bank_tables.specs.Sums.{any_below}
use Rattle.form_model.proofs.SumLaws.{any_intro, any_elim}
use Rattle.series_model.specs.Series.{Forms, forms_of}
use Rattle.series_check.specs.Values.{AreApart}

last_or : (i n : ℕ) → i < n + 1 → (i < n) ⊎ (i ≡ n)
last_or i n w = grind arith

-- ---- the lowest member, if there is one
pub some_member : (X : Set) (o : Option ℕ) → MatchOption o ((i : ℕ) → X i ≡ false) (λ x. IsLowest X x) → is_some o ≡ true → (x : ℕ) × (X x ≡ true)
some_member X None lowest e = absurd (true≢false (sym e))
some_member X (Some x) lowest e = (x, lowest.member)

pub no_member : (X : Set) (o : Option ℕ) → MatchOption o ((i : ℕ) → X i ≡ false) (λ x. IsLowest X x) → is_some o ≡ false → (i : ℕ) → X i ≡ false
no_member X None lowest e = lowest
no_member X (Some x) lowest e = absurd (true≢false e)

-- ---- a set that is read from a list
pub set_read : (sets : List (List ℕ)) (f : ℕ) (words : List ℕ) → words ≡ get_or sets f words → f < length sets → (i : ℕ) → has words i ≡ forms_of sets f i
set_read sets f words is within i = ap (λ (ws : List ℕ). has ws i) (get_or_read_under sets f (length sets) words [] is within refl)

-- ---- sets that are apart
module _ (S : Forms) (k : ℕ) (seen : Set) (is : (i : ℕ) → seen i ≡ any_below k (λ g. S g i)) where
  -- an item that was seen, and is in the next set
  pub not_apart : (n x : ℕ) → k < n → (seen x && S k x) ≡ true → AreApart n S → ⊥
  not_apart n x w both apart =
      let (seen_x, in_next) = both_true (seen x) (S k x) both in
      let (g, v, e) = any_elim k (λ g. S g x) (sym (is x) ∙ seen_x) in
      let same : g ≡ k = apart g k x (omega arith) w e in_next in
      omega arith
    where
      both_true : (a b : Bool) → (a && b) ≡ true → (a ≡ true) × (b ≡ true)
      both_true true true e = (refl, refl)
      both_true true false e = absurd (true≢false (sym e))
      both_true false b e = absurd (true≢false (sym e))

  -- no item is
  pub more_apart : ((x : ℕ) → (seen x && S k x) ≡ false) → AreApart k S → AreApart (k + 1) S
  more_apart none apart f g i w v a b =
      elim (last_or f k w) [
        | inl f_old ↦
            elim (last_or g k v) [
              | inl g_old ↦ apart f g i f_old g_old a b
              | inr g_new ↦ absurd (clash f i f_old a (sym (ap (λ (h : ℕ). S h i) g_new) ∙ b))
            ]
        | inr f_new ↦
            elim (last_or g k v) [
              | inl g_old ↦ absurd (clash g i g_old b (sym (ap (λ (h : ℕ). S h i) f_new) ∙ a))
              | inr g_new ↦ f_new ∙ sym g_new
            ]
      ]
    where
      clash : (h i : ℕ) → h < k → S h i ≡ true → S k i ≡ true → ⊥
      clash h i w old new = true≢false (sym (and_from (seen i) (S k i) (is i ∙ any_intro k (λ g. S g i) h w old) new) ∙ none i)

  pub more_seen : (seen' : Set) → ((i : ℕ) → seen' i ≡ (seen i || S k i)) → (i : ℕ) → seen' i ≡ any_below (k + 1) (λ g. S g i)
  more_seen seen' e i = rw add-one (e i ∙ ap (λ (b : Bool). b || S k i) (is i))
