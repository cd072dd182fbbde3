-- Forms in equal state may be exchanged: no series is lost where an item is put out of all of them
-- but for the first.
use Rattle.std.proofs.Common.{◌≡◌, ℕ, ◌<◌, ◌⊎◌, inl, inr, Bool, true, false, cond, not, ◌&&◌, ◌||◌, ◌==◌, Option, Some, None, refl, sym, ap, ◌∙◌, subst, nat_lt}
use Rattle.std.proofs.lemmas.Bool.{and_parts, and_from, eqb-true, eq-eqb, ne_eqb, cases_eq}
use Rattle.std.proofs.Math.Bool.{true≢false}
use Rattle.bank_tables.specs.Items.{Set}
use Rattle.bank_tables.specs.Sums.{any_below}
use Rattle.bank_tables.specs.Tables.{size}
use Rattle.form_model.proofs.SumLaws.{either, or_true, or_left, any_intro, any_elim}
use Rattle.certificate_model.proofs.Duality.{held_is_taken_or_free}
use Rattle.series_model.specs.Series.{SeriesProblem, Forms, IsSeries, IsValue, weighted_information}
use Rattle.series_model.specs.SeriesPaths.{SeriesPath, form_problem, in_another, form_path, is_free_in, OnPath}
use Rattle.series_model.specs.SeriesTwins.{same_items, is_twin, without_twins}
use Rattle.series_model.specs.SeriesVerdicts.{IsSettled}
use Rattle.series_model.proofs.SeriesDualityLaws.{form_under}

-- ---- sets with the same items
agrees : (x y : Bool) → ((x && not y) || (not x && y)) ≡ false → x ≡ y
agrees true true e = refl
agrees true false e = absurd (true≢false e)
agrees false true e = absurd (true≢false e)
agrees false false e = refl

pub same_at : (n : ℕ) (X Y : Set) → same_items n X Y ≡ true → (i : ℕ) → i < n → X i ≡ Y i
same_at n X Y same i w =
    agrees (X i) (Y i)
    (elim (either ((X i && not (Y i)) || (not (X i) && Y i))) [
      | inl differ ↦ absurd (true≢false (sym same ∙ ap not (any_intro n (λ j. (X j && not (Y j)) || (not (X j) && Y j)) i w differ)))
      | inr agree ↦ agree
    ])

-- ---- two forms exchanged
exchange : ℕ → ℕ → ℕ → ℕ
exchange f g h = cond (h == f) g (cond (h == g) f h)

module _ (f g : ℕ) where
  to_second : exchange f g f ≡ g
  unfolding exchange
  to_second = rw (eq-eqb f f refl) refl

  other_stays : (h : ℕ) → (h ≡ f → ⊥) → (h ≡ g → ⊥) → exchange f g h ≡ h
  unfolding exchange
  other_stays h a b = rw (ne_eqb h f a, ne_eqb h g b) refl

  to_first : exchange f g g ≡ f
  unfolding exchange
  to_first = elim (cases_eq g f) [ inl same ↦ rw (eq-eqb g f same) same | inr other ↦ rw (ne_eqb g f other, eq-eqb g g refl) refl ]

  twice : (h : ℕ) → exchange f g (exchange f g h) ≡ h
  twice h =
      elim (cases_eq h f) [
        | inl first ↦ ap (λ (k : ℕ). exchange f g (exchange f g k)) first ∙ ap (exchange f g) to_second ∙ to_first ∙ sym first
        | inr not_first ↦
            elim (cases_eq h g) [
              | inl second ↦ ap (λ (k : ℕ). exchange f g (exchange f g k)) second ∙ ap (exchange f g) to_first ∙ to_second ∙ sym second
              | inr neither ↦ ap (exchange f g) (other_stays h not_first neither) ∙ other_stays h not_first neither
            ]
      ]

  stays_below : (k h : ℕ) → f < k → g < k → h < k → exchange f g h < k
  stays_below k h wf wg wh =
      elim (cases_eq h f) [
        | inl first ↦ subst (λ (m : ℕ). m < k) (sym (ap (exchange f g) first ∙ to_second)) wg
        | inr not_first ↦
            elim (cases_eq h g) [
              | inl second ↦ subst (λ (m : ℕ). m < k) (sym (ap (exchange f g) second ∙ to_first)) wf
              | inr neither ↦ subst (λ (m : ℕ). m < k) (sym (other_stays h not_first neither)) wh
            ]
      ]

module _ (Q : SeriesProblem) (S : Forms) (f g : ℕ) (wf : f < Q.forms) (wg : g < Q.forms) where
  pub exchanged : Forms
  exchanged h = S (exchange f g h)

  pub exchanged_series : IsSeries Q S → IsSeries Q exchanged
  unfolding exchanged
  exchanged_series series =
      record {
        meets = λ h w. series.meets (exchange f g h) (stays_below f g Q.forms h wf wg w);
        apart = λ h k i w v a b.
            let same = series.apart (exchange f g h) (exchange f g k) i (stays_below f g Q.forms h wf wg w) (stays_below f g Q.forms k wf wg v) a b in
            sym (twice f g h) ∙ ap (exchange f g) same ∙ twice f g k;
      }

  pub exchanged_value : (V : ℕ) → IsValue Q S V → IsValue Q exchanged V
  unfolding exchanged
  exchanged_value V value =
      let (h, k, w, counted, e) = value.reached in
      record {
        least = λ h k w. value.least (exchange f g h) k (stays_below f g Q.forms h wf wg w);
        reached = (exchange f g h, k, stays_below f g Q.forms h wf wg w, counted, e ∙ ap (λ (m : ℕ). weighted_information Q (S m) k) (sym (twice f g h)));
      }

  pub exchanged_settled : (U : Option ℕ) → IsSeries Q S → IsSettled Q U exchanged → IsSettled Q U S
  exchanged_settled None series settled = λ own. settled (exchanged_series own)
  exchanged_settled (Some U) series settled = λ V own value. settled V (exchanged_series own) (exchanged_value V value)

  pub first_is : (i : ℕ) → exchanged f i ≡ S g i
  unfolding exchanged
  first_is i = ap (λ (h : ℕ). S h i) (to_second f g)

-- ---- on a path where they are in equal state
not_out : (a b o : Bool) → (a && (b && not o)) ≡ true → o ≡ false
not_out true true true e = absurd (true≢false (sym e))
not_out true true false e = refl
not_out true false o e = absurd (true≢false (sym e))
not_out false b o e = absurd (true≢false (sym e))

module _ (Q : SeriesProblem) (p : SeriesPath) (S : Forms) (on : OnPath Q p S) (f g : ℕ) (wf : f < Q.forms) (wg : g < Q.forms)
    (taken : (i : ℕ) → i < size Q.bank → p.taken f i ≡ p.taken g i)
    (free : (i : ℕ) → i < size Q.bank → is_free_in Q p f i ≡ is_free_in Q p g i)
  where
    in_bank : (h i : ℕ) → h < Q.forms → S h i ≡ true → i < size Q.bank
    in_bank h i w has = (on.series.meets h w).right_length.in_bank i has

    -- what one of them has taken is in the other's set, and what is put out of it is not
    across : (i : ℕ) → p.taken f i ≡ true → S g i ≡ true
    across i e = on.holds_taken g i wg (sym (taken i (in_bank f i wf (on.holds_taken f i wf e))) ∙ e)

    across_out : (i : ℕ) → p.out f i ≡ true → S g i ≡ false
    across_out i e =
        elim (either (S g i)) [
          | inr has_not ↦ has_not
          | inl has ↦
              let w = in_bank g i wg has in
              elim (held_is_taken_or_free (form_problem Q) (form_path Q p g) (S g) (form_under Q p S on g wg) i has) [
                | inl own ↦ absurd (true≢false (sym (on.holds_taken f i wf (taken i w ∙ own)) ∙ on.holds_no_out f i wf e))
                | inr vacant ↦
                    let out_free : (p.out f i || in_another Q p f i) ≡ false = not_out _ _ _ (free i w ∙ vacant) in
                    absurd (true≢false (sym (or_left (p.out f i) (in_another Q p f i) e) ∙ out_free))
              ]
        ]

module _ (Q : SeriesProblem) (p : SeriesPath) (S : Forms) (on : OnPath Q p S) (f g : ℕ) (wf : f < Q.forms) (wg : g < Q.forms)
    (taken : (i : ℕ) → i < size Q.bank → p.taken f i ≡ p.taken g i)
    (free : (i : ℕ) → i < size Q.bank → is_free_in Q p f i ≡ is_free_in Q p g i)
  where
    pub exchanged_on : OnPath Q p (exchanged Q S f g wf wg)
    unfolding exchanged
    exchanged_on =
        record {
          series = exchanged_series Q S f g wf wg on.series;
          holds_taken = λ h i w e.
              elim (cases_eq h f) [
                | inl first ↦ ap (λ (k : ℕ). S (exchange f g k) i) first ∙ ap (λ (k : ℕ). S k i) (to_second f g) ∙ across Q p S on f g wf wg taken free i (sym (ap (λ (k : ℕ). p.taken k i) first) ∙ e)
                | inr not_first ↦
                    elim (cases_eq h g) [
                      | inl second ↦
                          ap (λ (k : ℕ). S (exchange f g k) i) second
                          ∙ ap (λ (k : ℕ). S k i) (to_first f g)
                          ∙ across Q p S on g f wg wf (λ j v. sym (taken j v)) (λ j v. sym (free j v)) i (sym (ap (λ (k : ℕ). p.taken k i) second) ∙ e)
                      | inr neither ↦ ap (λ (k : ℕ). S k i) (other_stays f g h not_first neither) ∙ on.holds_taken h i w e
                    ]
              ];
          holds_no_out = λ h i w e.
              elim (cases_eq h f) [
                | inl first ↦ ap (λ (k : ℕ). S (exchange f g k) i) first ∙ ap (λ (k : ℕ). S k i) (to_second f g) ∙ across_out Q p S on f g wf wg taken free i (sym (ap (λ (k : ℕ). p.out k i) first) ∙ e)
                | inr not_first ↦
                    elim (cases_eq h g) [
                      | inl second ↦
                          ap (λ (k : ℕ). S (exchange f g k) i) second
                          ∙ ap (λ (k : ℕ). S k i) (to_first f g)
                          ∙ across_out Q p S on g f wg wf (λ j v. sym (taken j v)) (λ j v. sym (free j v)) i (sym (ap (λ (k : ℕ). p.out k i) second) ∙ e)
                      | inr neither ↦ ap (λ (k : ℕ). S k i) (other_stays f g h not_first neither) ∙ on.holds_no_out h i w e
                    ]
              ];
          holds_used = λ i e.
              let (h, w, has) = on.holds_used i e in
              (exchange f g h, stays_below f g Q.forms h wf wg w, ap (λ (k : ℕ). S k i) (twice f g h) ∙ has);
        }

-- ---- the branch: a series is on the left path, or on the right one, or with two forms exchanged
-- on the left one
module _ (Q : SeriesProblem) (p : SeriesPath) (S : Forms) (on : OnPath Q p S) (f i : ℕ) where
  out_of_all : ((g : ℕ) → g < Q.forms → is_twin Q p f g ≡ true → S g i ≡ false) → OnPath Q (without_twins Q p f i) S
  out_of_all none =
      record {
        series = on.series;
        holds_taken = on.holds_taken;
        holds_no_out = λ g j w e.
            elim (or_true (is_twin Q p f g && j == i) (p.out g j) e) [
              | inl new ↦ (let parts = and_parts (is_twin Q p f g) (j == i) new in ap (S g) (eqb-true _ _ parts.1) ∙ none g w parts.0)
              | inr old ↦ on.holds_no_out g j w old
            ];
        holds_used = on.holds_used;
      }

  pub some_twin_or_out : ((g : ℕ) × (g < Q.forms) × (is_twin Q p f g ≡ true) × (S g i ≡ true)) ⊎ OnPath Q (without_twins Q p f i) S
  some_twin_or_out =
      elim (either (any_below Q.forms (λ g. is_twin Q p f g && S g i))) [
        | inl some ↦ (let (g, w, e) = any_elim Q.forms (λ g. is_twin Q p f g && S g i) some in let parts = and_parts (is_twin Q p f g) (S g i) e in inl (g, w, parts.0, parts.1))
        | inr none ↦ inr (out_of_all (λ g w twin. elim (either (S g i)) [
          | inl has ↦ absurd (true≢false (sym (any_intro Q.forms (λ g. is_twin Q p f g && S g i) g w (and_from _ _ twin has)) ∙ none))
          | inr has_not ↦ has_not
        ]))
      ]

pub twin_exchanged : (Q : SeriesProblem) (p : SeriesPath) (S : Forms) → OnPath Q p S → (f g i : ℕ) (wf : f < Q.forms) (wg : g < Q.forms) → is_twin Q p f g ≡ true → S g i ≡ true → OnPath Q p (exchanged Q S f g wf wg) × (exchanged Q S f g wf wg f i ≡ true)
twin_exchanged Q p S on f g i wf wg twin has =
    let same = and_parts _ _ (and_parts (nat_lt g Q.forms) _ twin).1 in
    (exchanged_on Q p S on f g wf wg (same_at (size Q.bank) (p.taken f) (p.taken g) same.0) (same_at (size Q.bank) (is_free_in Q p f) (is_free_in Q p g) same.1), first_is Q S f g wf wg i ∙ has)
