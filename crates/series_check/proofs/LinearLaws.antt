-- The Lagrangian of a form is linear in its items and stimuli, and greatest where the greatest
-- weights are taken.
use Rattle.std.proofs.Common.{◌≡◌, ℕ, zero, suc, ◌+◌, ◌*◌, ◌<◌, ◌⊎◌, inl, inr, Bool, true, false, cond, not, ◌&&◌, ◌||◌, ◌==◌, length, ℤ, pos, ◌+ℤ◌, ◌-ℤ◌, ◌*ℤ◌, ◌≤ℤ◌, int_lt, refl, sym, ap, ◌∙◌, arith}
use Rattle.std.specs.Int.{int_max}
use Rattle.std.proofs.lemmas.Int.{ints}
use Rattle.std.proofs.lemmas.Bool.{and_parts}
use Rattle.std.proofs.Math.Bool.{true≢false}
use Rattle.bank_tables.specs.Items.{Set}
use Rattle.bank_tables.specs.Sums.{sum_in_z, total_z}
use Rattle.bank_tables.specs.Tables.{size, stimulus}
use Rattle.form_model.specs.Forms.{stimuli_of, size_in}
use Rattle.certificate_model.specs.Paths.{Path, is_free, is_chosen, is_open}
use Rattle.form_model.specs.Problem.{Problem}
use Rattle.certificate_model.specs.Relaxed.{Multipliers, multiplier, lagrangian_without_links, link_multiplier, weighted_link_slack, lagrangian, IsRelaxedPair}
use Rattle.certificate_model.specs.Weights.{price, stimulus_side, constant_share, stimulus_share, item_weight, stimulus_weight, rows_constant}
use Rattle.certificate_model.proofs.ClosedFormLaws.{weight_is}
use Rattle.certificate_model.proofs.Greatest.{greatest_of_size, count_in-split, rest_of}
use Rattle.certificate_model.proofs.Reduced.{unlinked, row_linear, amount_linear, constant_form, items_linear, own_weight, low_stimulus, high_stimulus, links, reduced, lagrangian-reduced, chosen_no_excess, total_z-cond, total_z-same}
use Rattle.form_model.proofs.SumLaws.{either, or_true, or_left}
use Rattle.series_check.specs.Gains.{gain_of}
use Rattle.series_check.specs.Maximum.{linear, IsValueOf}

-- ---- sums term by term
pub sum_in_z-same : (n : ℕ) (X : Set) (f g : ℕ → ℤ) → ((i : ℕ) → i < n → f i ≡ g i) → sum_in_z n X f ≡ sum_in_z n X g
sum_in_z-same zero X f g h = refl
sum_in_z-same (suc n) X f g h =
    let rest = sum_in_z-same n X f g (λ i w. h i (omega arith)) in
    let last : cond (X n) (f n) (pos 0) ≡ cond (X n) (g n) (pos 0) = ap (λ (z : ℤ). cond (X n) z (pos 0)) (h n (omega arith)) in
    omega (arith, ints)

pub sum_in_z-plus : (n : ℕ) (X : Set) (f g : ℕ → ℤ) → sum_in_z n X (λ i. f i +ℤ g i) ≡ sum_in_z n X f +ℤ sum_in_z n X g
sum_in_z-plus zero X f g = omega (arith, ints)
sum_in_z-plus (suc n) X f g =
    let rest = sum_in_z-plus n X f g in
    elim (either (X n)) [ inl member ↦ rw member (omega (arith, ints)) | inr other ↦ rw other (omega (arith, ints)) ]

none_in_all : (n : ℕ) (f : ℕ → ℤ) → ((i : ℕ) → f i ≡ pos 0) → total_z n f ≡ pos 0
none_in_all zero f h = refl
none_in_all (suc n) f h = omega (arith, ints, none_in_all n f h, h n)

no_slack : (m z : ℤ) → m ≡ pos 0 → m *ℤ z ≡ pos 0
no_slack m z e = rw e (omega (arith, ints))

none_below : (n : ℕ) (f : ℕ → ℤ) → ((i : ℕ) → i < n → f i ≡ pos 0) → total_z n f ≡ pos 0
none_below zero f h = refl
none_below (suc n) f h = omega (arith, ints, none_below n f (λ i w. h i (omega arith)), h n (omega arith))

times_zero : (m : ℤ) → m *ℤ pos 0 ≡ pos 0
times_zero m = omega (arith, ints)

-- ---- without links the Lagrangian is linear: seen on a path where every stimulus is chosen, so
-- that no item has a link
module _ (P : Problem) (v : Multipliers) where
  all_chosen : Path
  all_chosen = record { taken = λ _. false; out = λ _. false; branched_on = λ _. true }

  no_link : (i : ℕ) → link_multiplier P all_chosen v true i ≡ pos 0
  unfolding link_multiplier all_chosen
  no_link i = unlinked_if (stimulus P.bank i == 0) (is_free P all_chosen i) _
    where
      unlinked_if : (a b : Bool) (m : ℤ) → cond (not a && (b && false)) m (pos 0) ≡ pos 0
      unlinked_if true b m = refl
      unlinked_if false true m = refl
      unlinked_if false false m = refl

  item_is : (i : ℕ) → i < size P.bank → (reduced P all_chosen v true).item i ≡ item_weight P (multiplier v) true i
  item_is i w = let e = weight_is P all_chosen v true i w in let none = no_link i in omega (arith, ints)

  abbrev M : ℕ → ℕ
  M = multiplier v

  stimulus_is : (s : ℕ) → (reduced P all_chosen v true).stimulus s ≡ stimulus_weight P M s
  unfolding reduced links unlinked row_linear amount_linear constant_form items_linear own_weight low_stimulus high_stimulus stimulus_weight all_chosen
  stimulus_is s =
      let rows = total_z-same (length P.plan.rows) (λ r. pos 0 +ℤ stimulus_share P M r) (stimulus_share P M) (λ r w. omega (arith, ints)) in
      let none = none_below (stimuli_of P.bank) (λ k. price M (stimulus_side P (suc k)) *ℤ pos 0) (λ k w. times_zero (price M (stimulus_side P (suc k)))) in
      let excess = chosen_no_excess P all_chosen v true s refl in
      omega (arith, ints)

  constant_is : (reduced P all_chosen v true).constant ≡ rows_constant P M
  unfolding reduced links unlinked row_linear amount_linear constant_form items_linear low_stimulus high_stimulus rows_constant
  constant_is =
      let rows =
      total_z-same (length P.plan.rows) (λ r. constant_share P M r +ℤ (price M (2 * r) *ℤ pos 0)) (constant_share P M)
      (λ r w. let e = times_zero (price M (2 * r)) in omega (arith, ints)) in
      let none = none_below (stimuli_of P.bank) (λ k. price M (stimulus_side P (suc k)) *ℤ pos 0) (λ k w. times_zero (price M (stimulus_side P (suc k)))) in
      omega (arith, ints)

  pub lagrangian_linear : (X Z : Set) → lagrangian_without_links P v true X Z ≡ linear P (multiplier v) (item_weight P (multiplier v) true) X Z
  unfolding lagrangian
  lagrangian_linear X Z =
      let all = lagrangian-reduced P all_chosen v true X Z in
      let none = none_in_all (size P.bank) (weighted_link_slack P all_chosen v true X Z) (λ i. no_slack (link_multiplier P all_chosen v true i) (pos (cond (Z (stimulus P.bank i)) 1 0) -ℤ pos (cond (X i) 1 0)) (no_link i)) in
      let constant = constant_is in
      let items = sum_in_z-same (size P.bank) X (reduced P all_chosen v true).item (item_weight P (multiplier v) true) item_is in
      let stimuli = sum_in_z-same (stimuli_of P.bank) (λ k. Z (suc k)) (λ k. (reduced P all_chosen v true).stimulus (suc k)) (λ k. stimulus_weight P (multiplier v) (suc k)) (λ k w. stimulus_is (suc k)) in
      omega (arith, ints)

-- ---- the greatest value of a linear form over relaxed pairs
pub total_z-le : (n : ℕ) (f g : ℕ → ℤ) → ((i : ℕ) → i < n → f i ≤ℤ g i) → total_z n f ≤ℤ total_z n g
total_z-le zero f g h = omega (arith, ints)
total_z-le (suc n) f g h = let rest = total_z-le n f g (λ i w. h i (omega arith)) in let last = h n (omega arith) in omega (arith, ints)

pub sum_in_z-split : (n : ℕ) (X A B : Set) (f : ℕ → ℤ) → ((i : ℕ) → i < n → (X i ≡ (A i || B i)) × ((A i && B i) ≡ false)) → sum_in_z n X f ≡ sum_in_z n A f +ℤ sum_in_z n B f
sum_in_z-split zero X A B f h = omega (arith, ints)
sum_in_z-split (suc n) X A B f h =
    let rest = sum_in_z-split n X A B f (λ i w. h i (omega arith)) in
    let last = term (X n) (A n) (B n) (f n) (h n (omega arith)).0 (h n (omega arith)).1 in
    omega (arith, ints)
  where
    term : (x a b : Bool) (m : ℤ) → x ≡ (a || b) → (a && b) ≡ false → cond x m (pos 0) ≡ cond a m (pos 0) +ℤ cond b m (pos 0)
    term x true true m e d = absurd (true≢false d)
    term x true false m e d = rw e (omega (arith, ints))
    term x false true m e d = rw e (omega (arith, ints))
    term x false false m e d = rw e (omega (arith, ints))

pub apart : (a b : Bool) → (b ≡ true → a ≡ false) → (a && b) ≡ false
apart true true h = h refl
apart true false h = refl
apart false b h = refl

-- a stimulus is taken if it is chosen, or open and of a weight that is not negative
pub picked : (c o : Bool) (u : ℤ) → cond (c || (o && not (int_lt u (pos 0)))) u (pos 0) ≡ cond c u (cond o (int_max (pos 0) u) (pos 0))
picked true o u = refl
picked false true u = elim (either (int_lt u (pos 0))) [ inl low ↦ rw low refl | inr high ↦ rw high refl ]
picked false false u = refl

pub at_most_gain : (c o z : Bool) (u : ℤ) → (c ≡ true → z ≡ true) → (z ≡ true → (c ≡ true) ⊎ (o ≡ true)) → cond z u (pos 0) ≤ℤ cond c u (cond o (int_max (pos 0) u) (pos 0))
at_most_gain true o z u h k = rw (h refl) (omega (arith, ints))
at_most_gain false true true u h k = elim (either (int_lt u (pos 0))) [ inl low ↦ rw low (omega (arith, ints)) | inr high ↦ rw high (omega (arith, ints)) ]
at_most_gain false true false u h k = elim (either (int_lt u (pos 0))) [ inl low ↦ rw low (omega (arith, ints)) | inr high ↦ rw high (omega (arith, ints)) ]
at_most_gain false false true u h k = elim (k refl) [ inl e ↦ absurd (true≢false (sym e)) | inr e ↦ absurd (true≢false (sym e)) ]
at_most_gain false false false u h k = omega (arith, ints)

pub not_true : (b : Bool) → not b ≡ true → b ≡ false
not_true true h = absurd (true≢false (sym h))
not_true false h = refl

module _ (P : Problem) (p : Path) (N : ℕ → ℕ) (w : ℕ → ℤ) (T : Set) (t : ℤ)
    (free : (i : ℕ) → T i ≡ true → is_free P p i ≡ true)
    (fills : size_in P.bank p.taken + size_in P.bank T ≡ P.plan.length)
    (above : (i : ℕ) → i < size P.bank → T i ≡ true → t ≤ℤ w i)
    (others : (i : ℕ) → i < size P.bank → is_free P p i ≡ true → T i ≡ false → w i ≤ℤ t)
  where
    weight : ℕ → ℤ
    weight k = stimulus_weight P N (suc k)

    value : ℤ
    value = rows_constant P N +ℤ ((sum_in_z (size P.bank) p.taken w +ℤ sum_in_z (size P.bank) T w) +ℤ total_z (stimuli_of P.bank) (λ k. gain_of P p N (suc k)))

    filled : Set
    filled i = p.taken i || T i

    taken_up : Set
    taken_up s = is_chosen P p s || (is_open P p s && not (int_lt (stimulus_weight P N s) (pos 0)))

    filled_split : (i : ℕ) → i < size P.bank → (filled i ≡ (p.taken i || T i)) × ((p.taken i && T i) ≡ false)
    unfolding filled
    filled_split i v = (refl, apart (p.taken i) (T i) (λ e. not_true (p.taken i) (and_parts _ _ (and_parts _ _ (free i e)).1).0))

    reach_fits : IsRelaxedPair P p filled taken_up
    unfolding filled taken_up
    reach_fits =
        record {
          n_items = count_in-split (size P.bank) filled p.taken T filled_split ∙ fills;
          holds_taken = λ i e. or_left (p.taken i) (T i) e;
          else_free = λ i e. elim (or_true (p.taken i) (T i) e) [ inl taken ↦ inl taken | inr new ↦ inr (free i new) ];
          holds_chosen = λ s first last e. or_left _ _ e;
          else_open = λ s first last e. elim (or_true (is_chosen P p s) _ e) [ inl chosen ↦ inl chosen | inr opened ↦ inr (and_parts (is_open P p s) _ opened).0 ];
        }

    reach_value : linear P N w filled taken_up ≡ value
    unfolding value taken_up
    reach_value =
        let items = sum_in_z-split (size P.bank) filled p.taken T w filled_split in
        let stimuli = total_z-cond (stimuli_of P.bank) (λ k. taken_up (suc k)) (λ k. stimulus_weight P N (suc k)) in
        let same =
        total_z-same (stimuli_of P.bank) (λ k. cond (taken_up (suc k)) (stimulus_weight P N (suc k)) (pos 0)) (λ k. gain_of P p N (suc k))
        (λ k v. picked (is_chosen P p (suc k)) (is_open P p (suc k)) (stimulus_weight P N (suc k))) in
        omega (arith, ints)

    most : (X Z : Set) → IsRelaxedPair P p X Z → linear P N w X Z ≤ℤ value
    unfolding value
    most X Z fits =
        let n = size P.bank in
        let rest : Set = λ i. X i && not (p.taken i) in
        let split : (i : ℕ) → i < n → (X i ≡ (p.taken i || rest i)) × ((p.taken i && rest i) ≡ false) = λ i v. rest_of (p.taken i) (X i) (fits.holds_taken i) in
        let items = sum_in_z-split n X p.taken rest w split in
        let counts = count_in-split n X p.taken rest split in
        let n_items = fits.n_items in
        let same : size_in P.bank rest ≡ size_in P.bank T = omega (arith, fills, n_items, counts) in
        let rest_free : (i : ℕ) → i < n → rest i ≡ true → is_free P p i ≡ true =
        λ i v h.
        let parts = and_parts (X i) (not (p.taken i)) h in
        elim (fits.else_free i parts.0) [ inl taken ↦ absurd (true≢false (sym parts.1 ∙ ap not taken)) | inr free ↦ free ] in
        let more : sum_in_z n rest w ≤ℤ sum_in_z n T w = greatest_of_size n (is_free P p) T rest w t above others rest_free same in
        let own = total_z-cond (stimuli_of P.bank) (λ k. Z (suc k)) (λ k. stimulus_weight P N (suc k)) in
        let stimuli =
        total_z-le (stimuli_of P.bank) (λ k. cond (Z (suc k)) (stimulus_weight P N (suc k)) (pos 0)) (λ k. gain_of P p N (suc k))
        (λ k v. at_most_gain (is_chosen P p (suc k)) (is_open P p (suc k)) (Z (suc k)) (stimulus_weight P N (suc k)) (fits.holds_chosen (suc k) (omega arith) (omega arith)) (fits.else_open (suc k) (omega arith) (omega arith))) in
        omega (arith, ints)

    pub greatest_linear : IsValueOf P p N w (rows_constant P N +ℤ ((sum_in_z (size P.bank) p.taken w +ℤ sum_in_z (size P.bank) T w) +ℤ total_z (stimuli_of P.bank) (λ k. gain_of P p N (suc k))))
    unfolding value
    greatest_linear = record { reached = (filled, taken_up, reach_fits, reach_value); greatest = most }
