-- What the code computes is the relaxed maximum.
use Rattle.std.proofs.Common.{◌≡◌, ℕ, zero, suc, ◌+◌, ◌<◌, ◌⊎◌, inl, inr, Bool, true, false, cond, not, ◌||◌, List, ℤ, pos, ◌+ℤ◌, refl, sym, ap, ◌∙◌, subst, arith, w64, to_z, of_z}
use Rattle.std.specs.Prelude.{◌≤ℤ◌, ◌-ℤ◌}
use Rattle.std.proofs.lemmas.Int.{ints}
use Rattle.std.proofs.lemmas.Bool.{and_parts}
use Rattle.std.proofs.Math.Bool.{true≢false}
use Rattle.bank_tables.specs.Items.{Set}
use Rattle.bank_tables.specs.Sums.{sum_in_z, total_z, count_in}
use Rattle.bank_tables.specs.Tables.{size}
use Rattle.form_model.specs.Forms.{stimuli_of, size_in}
use Rattle.certificate_model.specs.Counting.{taken_or_free}
use Rattle.certificate_model.specs.Paths.{Path, is_free}
use Rattle.form_model.specs.Problem.{Problem}
use Rattle.certificate_model.specs.Ranges.{IsWithin, at}
use Rattle.certificate_model.specs.Weights.{item_weight, rows_constant}
use Rattle.certificate_model.specs.Relaxed.{Multipliers, multiplier, link_multiplier, IsRelaxedMaximum}
use Rattle.certificate_model.specs.ClosedForm.{capped_weight, IsGreatestFill, stimulus_gain}
use Rattle.certificate_model.proofs.ClosedFormLaws.{closed_form_is}
use Rattle.certificate_model.proofs.Reduced.{total_z-same, taken_no_link}
use Rattle.form_model.proofs.SumLaws.{either, sum_in-le, or_left, or_right}
use Rattle.certificate_check.specs.Caps.{AreCapped}
use Rattle.certificate_check.specs.Maximum.{gain_of_stimulus}
use Rattle.certificate_check.specs.Tops.{IsTopOf}
use Rattle.certificate_check.proofs.TopLaws.{threshold}

sum_in_z-same : (n : ℕ) (X : Set) (f g : ℕ → ℤ) → ((i : ℕ) → i < n → X i ≡ true → f i ≡ g i) → sum_in_z n X f ≡ sum_in_z n X g
sum_in_z-same zero X f g h = refl
sum_in_z-same (suc n) X f g h =
    let rest = sum_in_z-same n X f g (λ i w. h i (omega arith)) in
    let last : cond (X n) (f n) (pos 0) ≡ cond (X n) (g n) (pos 0) = elim (either (X n)) [ inl member ↦ rw member (h n (omega arith) member) | inr other ↦ rw other refl ] in
    omega (arith, ints)

joined : (a b c d a' b' c' d' : ℤ) → a ≡ a' → b ≡ b' → c ≡ c' → d ≡ d' → a +ℤ ((b +ℤ c) +ℤ d) ≡ a' +ℤ ((b' +ℤ c') +ℤ d')
joined a b c d a' b' c' d' e f g h = cc

-- the sums of the code don't wrap
pub four_summed : (a b c d : ℤ) → IsWithin 72056494526300160 a → IsWithin 72619566961786880 b → IsWithin 72619566961786880 c → IsWithin 4692688144389111808 d →
    to_z w64 (of_z w64 (to_z w64 (of_z w64 a) +ℤ to_z w64 (of_z w64 (to_z w64 (of_z w64 (to_z w64 (of_z w64 b) +ℤ to_z w64 (of_z w64 c))) +ℤ to_z w64 (of_z w64 d))))) ≡ a +ℤ ((b +ℤ c) +ℤ d)
four_summed a b c d wa wb wc wd = omega (arith, ints)

module _ (P : Problem) (p : Path) (v : Multipliers) (ray : Bool) (weights excesses : List ℤ) (are : AreCapped P p v ray weights excesses)
    (T : Set) (k : ℕ) (top : IsTopOf (size P.bank) weights (is_free P p) k T)
    (fills : size_in P.bank p.taken + k ≡ P.plan.length)
  where
    is_fill : (t : ℤ) × IsGreatestFill P p v ray T t
    is_fill =
        let (t, above, others) = threshold (size P.bank) weights (is_free P p) k T top in (
          t,
          record {
            free = top.within;
            fills = ap (λ (n : ℕ). size_in P.bank p.taken + n) top.number ∙ fills;
            above = λ i w e. subst (λ z. t ≤ℤ z) (are.weights_are i w) (above i w e);
            others = λ i w f e. subst (λ z. z ≤ℤ t) (are.weights_are i w) (others i w f e);
          },
        )

    -- an item that is taken is under no cap
    taken_weight : (i : ℕ) → i < size P.bank → p.taken i ≡ true → at weights i ≡ item_weight P (multiplier v) ray i
    taken_weight i w taken = are.weights_are i w ∙ less_none (item_weight P (multiplier v) ray i) (link_multiplier P p v ray i) (taken_no_link P p v ray i taken)
      where
        less_none : (a m : ℤ) → m ≡ pos 0 → a -ℤ m ≡ a
        less_none a m e = omega (arith, ints)

    gain_is : (j : ℕ) → j < stimuli_of P.bank → gain_of_stimulus P p (multiplier v) (at excesses j) (suc j) ≡ stimulus_gain P p v ray (suc j)
    gain_is j w = ap (λ (e : ℤ). gain_of_stimulus P p (multiplier v) e (suc j)) (are.excesses_are j w)

    pub maximum_is : (constant taken free stimuli : ℤ)
        → constant ≡ rows_constant P (multiplier v)
        → taken ≡ sum_in_z (size P.bank) p.taken (at weights)
        → free ≡ sum_in_z (size P.bank) T (at weights)
        → stimuli ≡ total_z (stimuli_of P.bank) (λ j. gain_of_stimulus P p (multiplier v) (at excesses j) (suc j))
        → IsRelaxedMaximum P p v ray (constant +ℤ ((taken +ℤ free) +ℤ stimuli))
    maximum_is constant taken free stimuli e f g h =
        let (t, fill) = is_fill in
        let same =
        joined constant taken free stimuli (rows_constant P (multiplier v)) (sum_in_z (size P.bank) p.taken (item_weight P (multiplier v) ray)) (sum_in_z (size P.bank) T (capped_weight P p v ray)) (total_z (stimuli_of P.bank) (λ j. stimulus_gain P p v ray (suc j)))
        e
        (f ∙ sum_in_z-same (size P.bank) p.taken (at weights) (item_weight P (multiplier v) ray) taken_weight)
        (g ∙ sum_in_z-same (size P.bank) T (at weights) (capped_weight P p v ray) (λ i w member. are.weights_are i w))
        (h ∙ total_z-same (stimuli_of P.bank) (λ j. gain_of_stimulus P p (multiplier v) (at excesses j) (suc j)) (λ j. stimulus_gain P p v ray (suc j)) gain_is) in
        subst (IsRelaxedMaximum P p v ray) (sym same) (closed_form_is P p v ray T t fill)

-- ---- where the length is impossible
count_split : (n : ℕ) (X A B : Set) → ((i : ℕ) → X i ≡ (A i || B i)) → ((i : ℕ) → B i ≡ true → A i ≡ false) → count_in n X (λ _. true) ≡ count_in n A (λ _. true) + count_in n B (λ _. true)
count_split zero X A B h k = refl
count_split (suc n) X A B h k = omega (arith, count_split n X A B h k, one (X n) (A n) (B n) (h n) (k n))
  where
    one : (x a b : Bool) → x ≡ (a || b) → (b ≡ true → a ≡ false) → ◌≡◌ {A = ℕ} (cond x 1 0) (cond a 1 0 + cond b 1 0)
    one x true true e f = absurd (true≢false (f refl))
    one x true false e f = rw e refl
    one x false true e f = rw e refl
    one x false false e f = rw e refl

not_true : (b : Bool) → not b ≡ true → b ≡ false
not_true true h = absurd (true≢false (sym h))
not_true false h = refl

module _ (P : Problem) (p : Path) where
  pub taken_and_free : size_in P.bank (taken_or_free P p) ≡ size_in P.bank p.taken + size_in P.bank (is_free P p)
  taken_and_free = count_split (size P.bank) (taken_or_free P p) p.taken (is_free P p) (λ i. refl) (λ i free. not_true _ (and_parts _ _ (and_parts _ _ free).1).0)

  pub no_maximum : (v : Multipliers) (ray : Bool) → (P.plan.length < size_in P.bank p.taken) ⊎ (size_in P.bank p.taken + size_in P.bank (is_free P p) < P.plan.length) → (r : ℤ) → IsRelaxedMaximum P p v ray r → ⊥
  no_maximum v ray impossible r maximum =
      let (X, Z, fits, value) = maximum.reached in
      let e = fits.n_items in
      elim impossible [
        | inl many ↦ omega (arith, sum_in-le (size P.bank) p.taken X (λ _. 1) (λ i w. fits.holds_taken i))
        | inr few ↦
            omega (arith, taken_and_free, sum_in-le (size P.bank) X (taken_or_free P p) (λ _. 1) (λ i w has. elim (fits.else_free i has) [ inl taken ↦ or_left _ _ taken | inr free ↦ or_right (p.taken i) (is_free P p i) free ]))
      ]
