-- Stimuli with an item in a set.
use Rattle.std.proofs.Common.{◌≡◌, ℕ, ◌<◌, Bool, true, false, not, ◌&&◌, ◌||◌, ◌==◌, nat_lt, inl, inr, refl, sym, ap, ◌∙◌}
use Rattle.std.proofs.lemmas.Bool.{and_parts, and_from, eqb-true, eq-eqb, ne_eqb, ltb-true, lt-ltb}
use Rattle.std.proofs.Math.Bool.{true≢false}
use Rattle.bank_tables.specs.Items.{Set}
use Rattle.bank_tables.specs.Tables.{Tables, size, stimulus}
use Rattle.form_model.specs.Forms.{used}
use Rattle.form_model.proofs.SumLaws.{or_true, or_left, or_right, any_intro, any_elim}

pub same_truth : (a b : Bool) → (a ≡ true → b ≡ true) → (b ≡ true → a ≡ true) → a ≡ b
same_truth true true h k = refl
same_truth true false h k = sym (h refl)
same_truth false true h k = k refl
same_truth false false h k = refl

pub not_true : (b : Bool) → not b ≡ true → b ≡ false
not_true true h = absurd (true≢false (sym h))
not_true false h = refl

pub not_false : (b : Bool) → b ≡ false → not b ≡ true
not_false true h = absurd (true≢false h)
not_false false h = refl

pub false_where : (b : Bool) → (b ≡ true → ⊥) → b ≡ false
false_where true h = absurd (h refl)
false_where false h = refl

-- an item of X below the size with the stimulus s
pub record HasItem (b : Tables) (X : Set) (s : ℕ) : Type 0 where
  pub some : 0 < s
  pub item : ℕ
  pub within : item < size b
  pub member : X item ≡ true
  pub of : stimulus b item ≡ s

pub used_by : (b : Tables) (X : Set) (s : ℕ) → used b X s ≡ true → HasItem b X s
used_by b X s h =
    let parts = and_parts (nat_lt 0 s) _ h in
    let (i, within, e) = any_elim (size b) (λ i. X i && stimulus b i == s) parts.1 in
    let both = and_parts (X i) (stimulus b i == s) e in
    record { some = ltb-true 0 s parts.0; item = i; within = within; member = both.0; of = eqb-true _ _ both.1 }

pub used_from : (b : Tables) (X : Set) (s : ℕ) → HasItem b X s → used b X s ≡ true
used_from b X s h =
    and_from _ _ (lt-ltb 0 s h.some) (any_intro (size b) (λ i. X i && stimulus b i == s) h.item h.within (and_from _ _ h.member (eq-eqb _ _ h.of)))

pub used_with : (b : Tables) (X : Set) (i s : ℕ) → i < size b → used b (λ j. j == i || X j) s ≡ ((nat_lt 0 s && stimulus b i == s) || used b X s)
used_with b X i s within =
    same_truth _ _
    (λ h.
    let has = used_by b (λ j. j == i || X j) s h in
    elim (or_true (has.item == i) (X has.item) has.member) [
      | inl at ↦ or_left _ _ (and_from _ _ (lt-ltb 0 s has.some) (eq-eqb _ _ (ap (stimulus b) (sym (eqb-true _ _ at)) ∙ has.of)))
      | inr old ↦ or_right _ _ (used_from b X s (record { some = has.some; item = has.item; within = has.within; member = old; of = has.of }))
    ])
    (λ h.
    elim (or_true (nat_lt 0 s && stimulus b i == s) (used b X s) h) [
      | inl new ↦
          let parts = and_parts (nat_lt 0 s) (stimulus b i == s) new in
          used_from b (λ j. j == i || X j) s (record { some = ltb-true 0 s parts.0; item = i; within = within; member = or_left _ _ (eq-eqb i i refl); of = eqb-true _ _ parts.1 })
      | inr old ↦
          let has = used_by b X s old in
          used_from b (λ j. j == i || X j) s (record { some = has.some; item = has.item; within = has.within; member = or_right _ _ has.member; of = has.of })
    ])

pub used_without : (b : Tables) (X : Set) (i s : ℕ) → (stimulus b i ≡ s → ⊥) → used b (λ j. not (j == i) && X j) s ≡ used b X s
used_without b X i s other =
    same_truth _ _
    (λ h.
    let has = used_by b (λ j. not (j == i) && X j) s h in
    used_from b X s (record { some = has.some; item = has.item; within = has.within; member = (and_parts (not (has.item == i)) (X has.item) has.member).1; of = has.of }))
    (λ h.
    let has = used_by b X s h in
    let apart : has.item ≡ i → ⊥ = λ at. other (ap (stimulus b) (sym at) ∙ has.of) in
    used_from b (λ j. not (j == i) && X j) s (record { some = has.some; item = has.item; within = has.within; member = and_from _ _ (not_false _ (ne_eqb has.item i apart)) has.member; of = has.of }))

-- without the items of stimulus s the other stimuli are used as before
pub used_dropped : (b : Tables) (X : Set) (s t : ℕ) → used b (λ j. X j && not (nat_lt j (size b) && (X j && stimulus b j == s))) t ≡ (not (t == s) && used b X t)
used_dropped b X s t =
    same_truth _ _
    (λ h.
    let has = used_by b (λ j. X j && not (nat_lt j (size b) && (X j && stimulus b j == s))) t h in
    let parts = and_parts (X has.item) (not (nat_lt has.item (size b) && (X has.item && stimulus b has.item == s))) has.member in
    let apart : t ≡ s → ⊥ =
    λ same. true≢false (sym (and_from _ _ (lt-ltb has.item (size b) has.within) (and_from _ _ parts.0 (eq-eqb _ _ (has.of ∙ same)))) ∙ not_true _ parts.1) in
    and_from _ _ (not_false _ (ne_eqb t s apart)) (used_from b X t (record { some = has.some; item = has.item; within = has.within; member = parts.0; of = has.of })))
    (λ h.
    let parts = and_parts (not (t == s)) (used b X t) h in
    let has = used_by b X t parts.1 in
    let apart : (nat_lt has.item (size b) && (X has.item && stimulus b has.item == s)) ≡ true → ⊥ =
    λ e. let inner = and_parts (X has.item) (stimulus b has.item == s) (and_parts (nat_lt has.item (size b)) (X has.item && stimulus b has.item == s) e).1 in true≢false (sym (eq-eqb t s (sym has.of ∙ eqb-true _ _ inner.1)) ∙ not_true _ parts.0) in
    used_from b (λ j. X j && not (nat_lt j (size b) && (X j && stimulus b j == s))) t (record { some = has.some; item = has.item; within = has.within; member = and_from _ _ has.member (not_false _ (false_where _ apart)); of = has.of }))
