-- Each form on a path is at most the relaxed maximum there.
use Rattle.std.proofs.Common.{◌≡◌, ℕ, zero, suc, ◌+◌, ◌-◌, ◌*◌, ◌≤◌, ◌<◌, ◌⊎◌, inl, inr, Bool, true, false, cond, not, ◌&&◌, ◌==◌, length, ℤ, pos, ◌-ℤ◌, ◌*ℤ◌, ◌≤ℤ◌, Option, Some, None, refl, sym, ap, ◌∙◌, arith, nat_lt}
use Rattle.std.proofs.lemmas.Int.{ints}
use Rattle.std.specs.Prelude.{int_lt}
use Rattle.std.proofs.lemmas.Bool.{lt-ltb, eq-eqb, eqb-false, not-true, and_parts, and_from}
use Rattle.std.proofs.Math.Bool.{true≢false}
use Rattle.bank_tables.specs.Items.{Set}
use Rattle.bank_tables.specs.Tables.{size, info, stimulus}
use Rattle.bank_tables.specs.Sums.{sum_in, total_z}
use Rattle.form_model.specs.Forms.{Meets, items_of, stimuli_of, used, objective}
use Rattle.certificate_model.specs.Paths.{Path, Under, is_free, is_chosen, is_open}
use Rattle.form_model.specs.Plan.{bound_at}
use Rattle.form_model.specs.Problem.{Problem}
use Rattle.certificate_model.specs.Weights.{weight, item_weight}
use Rattle.certificate_model.specs.Relaxed.{Multipliers, multiplier, weighted_slacks, weighted_stimulus_slacks, lagrangian_without_links, cap, excess_over, is_linked, link_multiplier, weighted_link_slack, lagrangian, IsRelaxedPair, IsRelaxedMaximum}
use Rattle.form_model.proofs.SumLaws.{either, or_right, any_intro, any_elim, nonneg_sub, nonneg_mul, nonneg_add, nonneg_total, sum_in-scale, sum_in-zero, count_none, count_some}

rest_false : (a b : Bool) → a ≡ true → (a && b) ≡ false → b ≡ false
rest_false true b e h = h
rest_false false b e h = absurd (true≢false (sym e))

module _ (P : Problem) (p : Path) (X : Set) (under : Under P p X) where
  -- an item of X is taken or free
  pub held_is_taken_or_free : (i : ℕ) → X i ≡ true → (p.taken i ≡ true) ⊎ (is_free P p i ≡ true)
  held_is_taken_or_free i has =
      elim (either (p.taken i)) [
        | inl taken ↦ inl taken
        | inr not_taken ↦
            let within : i < size P.bank = under.form.meets.right_length.in_bank i has in
            elim (either (p.out i)) [
              | inl out ↦ absurd (true≢false (sym has ∙ under.holds_no_out i out))
              | inr not_out ↦ inr (and_from _ _ (lt-ltb i (size P.bank) within) (and_from _ _ (ap not not_taken) (ap not not_out)))
            ]
      ]

  pub used_chosen_or_open : (s : ℕ) → used P.bank X s ≡ true → (is_chosen P p s ≡ true) ⊎ (is_open P p s ≡ true)
  used_chosen_or_open s uses =
      let (i, within, e) = any_elim (size P.bank) (λ i. X i && stimulus P.bank i == s) (and_parts (nat_lt 0 s) _ uses).1 in
      let some : nat_lt 0 s ≡ true = (and_parts (nat_lt 0 s) _ uses).0 in
      let parts = and_parts (X i) (stimulus P.bank i == s) e in
      elim (either (is_chosen P p s)) [
        | inl chosen ↦ inl chosen
        | inr not_chosen ↦
            elim (held_is_taken_or_free i parts.0) [
              | inl taken ↦ inl (or_right _ _ (and_from _ _ some (any_intro (size P.bank) (λ i. p.taken i && stimulus P.bank i == s) i within (and_from _ _ taken parts.1))))
              | inr free ↦ inr (and_from _ _ (ap not not_chosen) (and_from _ _ some (any_intro (size P.bank) (λ i. is_free P p i && stimulus P.bank i == s) i within (and_from _ _ free parts.1))))
            ]
      ]

  -- a form on the path and the stimuli that it uses fit the path
  form_fits : IsRelaxedPair P p X (used P.bank X)
  form_fits = record {
    n_items = under.form.meets.right_length.n_items;
    holds_taken = under.holds_taken;
    else_free = held_is_taken_or_free;
    holds_chosen = under.uses_chosen;
    else_open = λ s first last uses. used_chosen_or_open s uses;
  }

excess_nonneg : (cap : Option ℤ) (weight : ℤ) → pos 0 ≤ℤ excess_over cap weight
excess_nonneg None weight = omega (arith, ints)
excess_nonneg (Some cap) weight = elim (either (int_lt (weight -ℤ cap) (pos 0))) [ inl low ↦ rw low (omega (arith, ints)) | inr high ↦ rw high (omega (arith, ints)) ]

-- a multiplier of at least 0 times the slack of a link, where the item is chosen only if its
-- stimulus is
slack_nonneg : (m : ℤ) (z x : Bool) → pos 0 ≤ℤ m → (x ≡ true → z ≡ true) → pos 0 ≤ℤ (m *ℤ (pos (cond z 1 0) -ℤ pos (cond x 1 0)))
slack_nonneg m true true h k = omega (arith, ints)
slack_nonneg m true false h k = omega (arith, ints)
slack_nonneg m false true h k = absurd (true≢false (sym (k refl)))
slack_nonneg m false false h k = omega (arith, ints)

slack_zero : (z : ℤ) → pos 0 ≤ℤ (pos 0 *ℤ z)
slack_zero z = omega (arith, ints)

module _ (P : Problem) (X : Set) (meets : Meets P.bank P.plan X) where
  -- the sides of a row are not negative
  pub row_nonneg : (v : Multipliers) (r : ℕ) → r < length P.plan.rows → pos 0 ≤ℤ weighted_slacks P v X (used P.bank X) r
  row_nonneg v r within =
      nonneg_add _ _ (nonneg_mul (multiplier v (2 * r)) _ (nonneg_sub _ _ (meets.rows r within).low)) (nonneg_mul (multiplier v (2 * r + 1)) _ (nonneg_sub _ _ (meets.rows r within).high))

  low_held : (s : ℕ) → 0 < s → s ≤ stimuli_of P.bank → cond (used P.bank X s) (bound_at P.plan s).low 0 ≤ items_of P.bank s X
  low_held s first last =
      elim (either (used P.bank X s)) [
        | inl some ↦
            let held = count_some (size P.bank) X (λ i. stimulus P.bank i == s) (and_parts (nat_lt 0 s) _ some).1 in
            elim ((meets.stimuli s first last).low) [ inl none ↦ absurd (omega arith) | inr low ↦ rw some low ]
        | inr none ↦ rw none (omega arith)
      ]

  high_held : (s : ℕ) → 0 < s → s ≤ stimuli_of P.bank → items_of P.bank s X ≤ cond (used P.bank X s) (bound_at P.plan s).high 0
  high_held s first last =
      elim (either (used P.bank X s)) [
        | inl some ↦ rw some ((meets.stimuli s first last).high)
        | inr none ↦ rw none (omega (arith, count_none (size P.bank) X (λ i. stimulus P.bank i == s) (rest_false (nat_lt 0 s) _ (lt-ltb 0 s first) none)))
      ]

  -- nor are those of a stimulus
  pub stimulus_nonneg : (v : Multipliers) (s : ℕ) → 0 < s → s ≤ stimuli_of P.bank → pos 0 ≤ℤ weighted_stimulus_slacks P v X (used P.bank X) s
  stimulus_nonneg v s first last =
      let low_side = 2 * length P.plan.rows + 2 * (s - 1) in
      nonneg_add _ _ (nonneg_mul (multiplier v low_side) _ (nonneg_sub _ _ (low_held s first last))) (nonneg_mul (multiplier v (low_side + 1)) _ (nonneg_sub _ _ (high_held s first last)))

  -- nor are those of a link: in a form an item is chosen only where its stimulus is
  pub own_stimulus_used : (i : ℕ) → X i ≡ true → (stimulus P.bank i == 0) ≡ false → used P.bank X (stimulus P.bank i) ≡ true
  own_stimulus_used i has some =
      let within = meets.right_length.in_bank i has in
      and_from _ _ (lt-ltb 0 (stimulus P.bank i) (omega (arith, eqb-false (stimulus P.bank i) 0 some)))
      (any_intro (size P.bank) (λ j. X j && stimulus P.bank j == stimulus P.bank i) i within (and_from _ _ has (eq-eqb _ _ refl)))

  link_nonneg : (p : Path) (v : Multipliers) (ray : Bool) (i : ℕ) → pos 0 ≤ℤ weighted_link_slack P p v ray X (used P.bank X) i
  unfolding link_multiplier
  link_nonneg p v ray i =
      elim (either (is_linked P p i)) [
        | inl linked ↦
            rw linked
            (slack_nonneg (excess_over (cap v) (item_weight P (multiplier v) ray i)) (used P.bank X (stimulus P.bank i)) (X i) (excess_nonneg (cap v) _) (λ has. own_stimulus_used i has (not-true _ (and_parts (not (stimulus P.bank i == 0)) _ linked).0)))
        | inr free ↦ rw free (slack_zero (pos (cond (used P.bank X (stimulus P.bank i)) 1 0) -ℤ pos (cond (X i) 1 0)))
      ]

  -- the objective of a form is at most its Lagrangian
  weight_le_value : (p : Path) (v : Multipliers) (ray : Bool) → pos (sum_in (size P.bank) X (weight P ray)) ≤ℤ lagrangian P p v ray X (used P.bank X)
  unfolding lagrangian lagrangian_without_links
  weight_le_value p v ray =
      let rows = nonneg_total (length P.plan.rows) (weighted_slacks P v X (used P.bank X)) (row_nonneg v) in
      let stimuli = nonneg_total (stimuli_of P.bank) (λ k. weighted_stimulus_slacks P v X (used P.bank X) (suc k)) (λ k w. stimulus_nonneg v (suc k) (omega arith) (omega arith)) in
      let links = nonneg_total (size P.bank) (weighted_link_slack P p v ray X (used P.bank X)) (λ i w. link_nonneg p v ray i) in
      omega (arith, ints)

-- without a cap the links have multiplier 0
none_over : (c : Option ℤ) (linked : Bool) (weight : ℤ) → c ≡ None → cond linked (excess_over c weight) (pos 0) ≡ pos 0
none_over (Some m) linked weight e = absurd (cc)
none_over None true weight e = refl
none_over None false weight e = refl

no_total : (n : ℕ) (f : ℕ → ℤ) → ((i : ℕ) → f i ≡ pos 0) → total_z n f ≡ pos 0
no_total zero f h = refl
no_total (suc n) f h = omega (arith, ints, no_total n f h, h n)

no_slack : (m z : ℤ) → m ≡ pos 0 → m *ℤ z ≡ pos 0
no_slack m z e = rw e (omega (arith, ints))

pub no_cap_no_links : (P : Problem) (p : Path) (v : Multipliers) (ray : Bool) (X Z : Set) → cap v ≡ None → lagrangian P p v ray X Z ≡ lagrangian_without_links P v ray X Z
unfolding lagrangian link_multiplier
no_cap_no_links P p v ray X Z none =
    let links =
    no_total (size P.bank) (weighted_link_slack P p v ray X Z)
    (λ i. no_slack (link_multiplier P p v ray i) (pos (cond (Z (stimulus P.bank i)) 1 0) -ℤ pos (cond (X i) 1 0)) (none_over (cap v) (is_linked P p i) (item_weight P (multiplier v) ray i) none)) in
    omega (arith, ints)

pub weak_duality : (P : Problem) (p : Path) (v : Multipliers) (r : ℤ) (X : Set) → IsRelaxedMaximum P p v false r → Under P p X → pos (256 * objective P X) ≤ℤ r
weak_duality P p v r X maximum under =
    let a = weight_le_value P X under.form.meets p v false in
    let b = maximum.greatest X (used P.bank X) (form_fits P p X under) in
    let e : sum_in (size P.bank) X (weight P false) ≡ 256 * objective P X = sum_in-scale (size P.bank) X 256 (λ i. info P.bank i P.theta) in
    omega (arith, ints)

pub weak_ray : (P : Problem) (p : Path) (v : Multipliers) (r : ℤ) (X : Set) → IsRelaxedMaximum P p v true r → Under P p X → pos 0 ≤ℤ r
weak_ray P p v r X maximum under =
    let a = weight_le_value P X under.form.meets p v true in
    let b = maximum.greatest X (used P.bank X) (form_fits P p X under) in
    let e : sum_in (size P.bank) X (weight P true) ≡ 0 = sum_in-zero (size P.bank) X in
    omega (arith, ints)
