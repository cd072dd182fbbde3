-- The closed form is the relaxed maximum.
use Rattle.std.proofs.Common.{◌≡◌, ℕ, zero, suc, ◌-◌, ◌*◌, ◌≤◌, ◌<◌, ◌⊎◌, inl, inr, Bool, true, false, cond, ◌==◌, length, ℤ, pos, ◌+ℤ◌, ◌*ℤ◌, ◌≤ℤ◌, refl, sym, ap, ◌∙◌, subst, arith}
use Rattle.std.specs.Prelude.{int_le, int_lt}
use Rattle.std.specs.Int.{int_max}
use Rattle.std.proofs.lemmas.Int.{ints}
use Rattle.std.proofs.lemmas.Bool.{eqb-true, eqb-false, eq-eqb, ne_eqb}
use Rattle.bank_tables.specs.Items.{Set}
use Rattle.bank_tables.specs.Sums.{sum_in_z, total_z}
use Rattle.bank_tables.specs.Tables.{size, stimulus}
use Rattle.form_model.specs.Forms.{stimuli_of}
use Rattle.form_model.specs.Problem.{Problem}
use Rattle.certificate_model.specs.Paths.{Path, is_chosen, is_open}
use Rattle.certificate_model.specs.Weights.{price, stimulus_side, constant_share, item_share, stimulus_share, price_of_stimulus, item_weight, stimulus_weight, rows_constant}
use Rattle.certificate_model.specs.Relaxed.{Multipliers, multiplier, IsRelaxedMaximum}
use Rattle.certificate_model.specs.ClosedForm.{capped_weight, excess_of_items, IsGreatestFill, stimulus_gain, closed_form}
use Rattle.form_model.proofs.SumLaws.{either, at_most_greatest}
use Rattle.certificate_model.proofs.Reduced.{unlinked, reduced, links, row_linear, amount_linear, constant_form, items_linear, own_weight, low_stimulus, high_stimulus, total_z-same, taken_no_link, chosen_no_excess}
use Rattle.certificate_model.proofs.Greatest.{relaxed_by, relaxed_is, best_stimulus}

-- ---- sums with one term, or none
last_or : (i n : ℕ) → i < suc n → (i < n) ⊎ (i ≡ n)
last_or i n w = grind arith

times_zero : (m : ℤ) → m *ℤ pos 0 ≡ pos 0
times_zero m = omega (arith, ints)

times_one : (m : ℤ) → m *ℤ pos 1 ≡ m
times_one m = omega (arith, ints)

total_none : (n : ℕ) (f : ℕ → ℤ) → ((i : ℕ) → i < n → f i ≡ pos 0) → total_z n f ≡ pos 0
total_none zero f h = refl
total_none (suc n) f h = omega (arith, ints, total_none n f (λ i w. h i (omega arith)), h n (omega arith))

-- the term of stimulus k + 1 in the sum for an item of stimulus s
abbrev term : ℕ → (ℕ → ℤ) → ℕ → ℤ
term s m k = m k *ℤ pos (cond (s == suc k) 1 0)

other_term : (s k : ℕ) (m : ℕ → ℤ) → (s ≡ suc k → ⊥) → term s m k ≡ pos 0
other_term s k m h = ap (λ (b : Bool). m k *ℤ pos (cond b 1 0)) (ne_eqb s (suc k) h) ∙ times_zero (m k)

no_term : (n s : ℕ) (m : ℕ → ℤ) → (s ≡ 0) ⊎ (n < s) → total_z n (term s m) ≡ pos 0
no_term n s m h = total_none n (term s m) (λ k w. other_term s k m (λ e. elim h [ inl none ↦ omega arith | inr past ↦ omega arith ]))

one_term : (n s : ℕ) (m : ℕ → ℤ) → 0 < s → s ≤ n → total_z n (term s m) ≡ m (s - 1)
one_term zero s m some within = absurd (omega arith)
one_term (suc n) s m some within =
    elim (last_or s (suc n) (omega arith)) [
      | inl before ↦
          let rest = one_term n s m some (omega arith) in
          let last = other_term s n m (λ e. omega arith) in
          omega (arith, ints)
      | inr at ↦
          let rest = no_term n s m (inr (omega arith)) in
          let last : term s m n ≡ m n = ap (λ (b : Bool). m n *ℤ pos (cond b 1 0)) (eq-eqb s (suc n) at) ∙ times_one (m n) in
          let place : s - 1 ≡ n = omega arith in
          let same : m (s - 1) ≡ m n = ap m place in
          omega (arith, ints)
    ]

-- ---- the three kinds of weight
module _ (P : Problem) (v : Multipliers) (ray : Bool) where
  abbrev M : ℕ → ℕ
  M = multiplier v

  stimulus_price : ℕ → ℤ
  stimulus_price k = price M (stimulus_side P (suc k))

  own_price : (i : ℕ) → i < size P.bank → total_z (stimuli_of P.bank) (term (stimulus P.bank i) stimulus_price) ≡ price_of_stimulus P M (stimulus P.bank i)
  unfolding stimulus_price
  own_price i w =
      elim (either (stimulus P.bank i == 0)) [
        | inl none ↦ rw none (no_term (stimuli_of P.bank) (stimulus P.bank i) stimulus_price (inl (eqb-true _ _ none)))
        | inr some ↦
            let first : 0 < stimulus P.bank i = positive (stimulus P.bank i) some in
            let back : suc (stimulus P.bank i - 1) ≡ stimulus P.bank i = omega arith in
            rw some (one_term (stimuli_of P.bank) (stimulus P.bank i) stimulus_price first (at_most_greatest (size P.bank) (stimulus P.bank) i w) ∙ ap (λ (s : ℕ). price M (stimulus_side P s)) back)
      ]
    where
      positive : (s : ℕ) → (s == 0) ≡ false → 0 < s
      positive s e = omega (arith, eqb-false s 0 e)

  pub item_is : (i : ℕ) → i < size P.bank → (unlinked P v ray).item i ≡ item_weight P M ray i
  unfolding unlinked row_linear amount_linear constant_form items_linear low_stimulus high_stimulus item_weight stimulus_price
  item_is i w =
      let rows = total_z-same (length P.plan.rows) (λ r. pos 0 +ℤ item_share P M i r) (item_share P M i) (λ r w. omega (arith, ints)) in
      let own = own_price i w in
      omega (arith, ints)

  pub stimulus_is : (s : ℕ) → (unlinked P v ray).stimulus s ≡ stimulus_weight P M s
  unfolding unlinked row_linear amount_linear constant_form items_linear own_weight low_stimulus high_stimulus stimulus_weight
  stimulus_is s =
      let rows = total_z-same (length P.plan.rows) (λ r. pos 0 +ℤ stimulus_share P M r) (stimulus_share P M) (λ r w. omega (arith, ints)) in
      let none = total_none (stimuli_of P.bank) (λ k. price M (stimulus_side P (suc k)) *ℤ pos 0) (λ k w. times_zero (price M (stimulus_side P (suc k)))) in
      omega (arith, ints)

  pub constant_is : (unlinked P v ray).constant ≡ rows_constant P M
  unfolding unlinked row_linear amount_linear constant_form items_linear low_stimulus high_stimulus rows_constant
  constant_is =
      let rows =
      total_z-same (length P.plan.rows) (λ r. constant_share P M r +ℤ (price M (2 * r) *ℤ pos 0)) (constant_share P M)
      (λ r w. let e = times_zero (price M (2 * r)) in omega (arith, ints)) in
      let none = total_none (stimuli_of P.bank) (λ k. price M (stimulus_side P (suc k)) *ℤ pos 0) (λ k w. times_zero (price M (stimulus_side P (suc k)))) in
      omega (arith, ints)

-- ---- the closed form
pub sum_in_z-same : (n : ℕ) (X : Set) (f g : ℕ → ℤ) → ((i : ℕ) → i < n → X i ≡ true → f i ≡ g i) → sum_in_z n X f ≡ sum_in_z n X g
sum_in_z-same zero X f g h = refl
sum_in_z-same (suc n) X f g h =
    let rest = sum_in_z-same n X f g (λ i w. h i (omega arith)) in
    let last : cond (X n) (f n) (pos 0) ≡ cond (X n) (g n) (pos 0) = elim (either (X n)) [ inl member ↦ rw member (h n (omega arith) member) | inr other ↦ rw other refl ] in
    omega (arith, ints)

greater : (u : ℤ) → cond (int_le (pos 0) u) u (pos 0) ≡ int_max (pos 0) u
greater u =
    elim (either (int_le (pos 0) u)) [
      | inl high ↦ elim (either (int_lt u (pos 0))) [ inl low ↦ absurd (omega (arith, ints)) | inr not_low ↦ rw (high, not_low) refl ]
      | inr not_high ↦ elim (either (int_lt u (pos 0))) [ inl low ↦ rw (not_high, low) refl | inr not_low ↦ absurd (omega (arith, ints)) ]
    ]

module _ (P : Problem) (p : Path) (v : Multipliers) (ray : Bool) where
  pub weight_is : (i : ℕ) → i < size P.bank → (reduced P p v ray).item i ≡ capped_weight P p v ray i
  unfolding reduced links
  weight_is i w = let e = item_is P v ray i w in omega (arith, ints)

  taken_is : (i : ℕ) → i < size P.bank → p.taken i ≡ true → (reduced P p v ray).item i ≡ item_weight P (multiplier v) ray i
  taken_is i w taken = let e = weight_is i w in let none = taken_no_link P p v ray i taken in omega (arith, ints)

  constant_with_links : (reduced P p v ray).constant ≡ rows_constant P (multiplier v)
  unfolding reduced links
  constant_with_links = let e = constant_is P v ray in omega (arith, ints)

  -- a chosen stimulus has no excess, so that both kinds have one weight
  gain_is : (s : ℕ) → best_stimulus P p v ray s ≡ stimulus_gain P p v ray s
  unfolding best_stimulus reduced links
  gain_is s =
      ap (λ (u : ℤ). cond (is_chosen P p s) (u +ℤ e) (cond (is_open P p s) (cond (int_le (pos 0) (u +ℤ e)) (u +ℤ e) (pos 0)) (pos 0))) (stimulus_is P v ray s)
      ∙ ap (λ (u : ℤ). cond (is_chosen P p s) (w +ℤ e) (cond (is_open P p s) u (pos 0))) (greater (w +ℤ e))
      ∙ chosen (is_chosen P p s) (chosen_no_excess P p v ray s)
    where
      w : ℤ
      w = stimulus_weight P (multiplier v) s

      e : ℤ
      e = excess_of_items P p v ray s

      chosen : (c : Bool) → (c ≡ true → e ≡ pos 0) → cond c (w +ℤ e) (cond (is_open P p s) (int_max (pos 0) (w +ℤ e)) (pos 0)) ≡ cond c w (cond (is_open P p s) (int_max (pos 0) (w +ℤ e)) (pos 0))
      chosen true h = let none = h refl in omega (arith, ints)
      chosen false h = refl

  module _ (T : Set) where
    value_is : relaxed_by P p v ray T ≡ closed_form P p v ray T
    unfolding relaxed_by
    value_is =
        let constant = constant_with_links in
        let taken = sum_in_z-same (size P.bank) p.taken (reduced P p v ray).item (item_weight P (multiplier v) ray) taken_is in
        let new = sum_in_z-same (size P.bank) T (reduced P p v ray).item (capped_weight P p v ray) (λ i w member. weight_is i w) in
        let stimuli = total_z-same (stimuli_of P.bank) (λ k. best_stimulus P p v ray (suc k)) (λ k. stimulus_gain P p v ray (suc k)) (λ k w. gain_is (suc k)) in
        omega (arith, ints)

    pub closed_form_is : (t : ℤ) → IsGreatestFill P p v ray T t → IsRelaxedMaximum P p v ray (closed_form P p v ray T)
    closed_form_is t fill =
        subst (λ (m : ℤ). IsRelaxedMaximum P p v ray m) value_is (relaxed_is P p v ray T t (record {
          free = fill.free;
          fills = fill.fills;
          above = λ i w e. subst (λ (m : ℤ). t ≤ℤ m) (sym (weight_is i w)) (fill.above i w e);
          others = λ i w e f. subst (λ (m : ℤ). m ≤ℤ t) (sym (weight_is i w)) (fill.others i w e f);
        }))
