-- The relaxed maximum of the pool: the greatest counts that fill the forms, each item in the form
-- where it counts most.
use Rattle.std.proofs.Common.{◌≡◌, ℕ, suc, ◌+◌, ◌*◌, ◌<◌, ◌⊎◌, inl, inr, Bool, true, false, cond, not, ◌&&◌, ◌||◌, ◌==◌, ℤ, pos, ◌+ℤ◌, ◌*ℤ◌, ◌≤ℤ◌, int_lt, refl, sym, ap, ◌∙◌, subst, arith, nat_lt}
use Rattle.std.proofs.lemmas.Int.{ints}
use Rattle.std.proofs.lemmas.Bool.{and_parts, and_from, lt-ltb, ltb-true, eq-eqb, eqb-true, ne_eqb, cases_eq}
use Rattle.std.proofs.Math.Bool.{true≢false}
use Rattle.bank_tables.specs.Items.{Set, has}
use Rattle.bank_tables.specs.Sums.{any_below, sum_in_z, total_z}
use Rattle.bank_tables.specs.Tables.{size}
use Rattle.form_model.specs.Forms.{size_in, stimuli_of}
use Rattle.form_model.proofs.SumLaws.{either, or_true, or_left, or_right, any_intro, any_elim, sum_in-le}
use Rattle.certificate_model.specs.Paths.{is_chosen, is_open}
use Rattle.certificate_model.specs.Ranges.{at}
use Rattle.certificate_model.specs.Relaxed.{Multipliers, multiplier}
use Rattle.certificate_model.specs.Weights.{price, stimulus_weight, rows_constant}
use Rattle.certificate_model.proofs.Greatest.{count_in-split}
use Rattle.certificate_model.proofs.Reduced.{total_z-cond, total_z-same}
use Rattle.certificate_check.specs.Tops.{IsTopOf}
use Rattle.certificate_check.proofs.TopLaws.{threshold}
use Rattle.series_model.specs.Series.{SeriesProblem, Forms}
use Rattle.series_model.specs.SeriesBounds.{form_lagrangian, uses}
use Rattle.series_model.specs.SeriesPaths.{SeriesPath, form_problem, form_path, in_another, is_free_in, is_placed, is_live, is_use_lost}
use Rattle.series_model.specs.SeriesPools.{length_side, length_slack, pool_size, pool_lagrangian, ArePooled, IsPoolMaximum}
use Rattle.series_model.proofs.UseLaws.{in_some, union_counts}
use Rattle.series_check.specs.declared.pool.Part.{Part}
use Rattle.series_check.specs.Gains.{gain_of}
use Rattle.series_check.specs.Maximum.{weight_at}
use Rattle.series_check.specs.Pools.{own_multiplier, holds, count_at, share_of, CountsIn, IsPoolTo}
use Rattle.series_check.specs.Values.{AreApart}
use Rattle.series_check.proofs.LinearLaws.{sum_in_z-split, total_z-le, picked, at_most_gain, not_true, apart}
use Rattle.series_check.proofs.MaximumLaws.{form_linear}
use Rattle.series_check.proofs.ApartSums.{lack_and_have, sum_in_z-shift, total_z-plus, items_at_most, items_are, items_counted, set_at_most}

-- ---- a number that passes, chosen where a test is true
choose : (P : ℕ → Type 0) (b : Bool) → (b ≡ true → (f : ℕ) × P f) → ℕ
choose P true some = (some refl).0
choose P false some = 0

choose_is : (P : ℕ → Type 0) (b : Bool) (some : b ≡ true → (f : ℕ) × P f) → b ≡ true → P (choose P b some)
unfolding choose
choose_is P true some e = (some refl).1
choose_is P false some e = absurd (true≢false (sym e))

same_truth : (a b : Bool) → (a ≡ true → b ≡ true) → (b ≡ true → a ≡ true) → a ≡ b
same_truth true b h k = sym (h refl)
same_truth false true h k = k refl
same_truth false false h k = refl

-- ---- the Lagrangian, form by form
module _ (Q : SeriesProblem) (p : SeriesPath) (v : Multipliers) (ray : Bool) where
  -- what the stimuli of a form add
  abbrev stimuli_add : ℕ → Set → ℤ
  stimuli_add f Z = total_z (stimuli_of Q.bank) (λ k. cond (Z (suc k)) (stimulus_weight (form_problem Q) (own_multiplier v f) (suc k)) (pos 0))

  -- what the items of a form count, with what is beside them
  form_parts : (X Z : Forms) (f : ℕ) → form_lagrangian Q v ray f (X f) (Z f) +ℤ length_slack Q v X f
      ≡ (price (multiplier v) (length_side f) *ℤ pos Q.plan.length) +ℤ (rows_constant (form_problem Q) (own_multiplier v f) +ℤ (stimuli_add f (Z f) +ℤ sum_in_z (size Q.bank) (X f) (count_at Q v ray f)))
  form_parts X Z f =
      let linear = form_linear Q p v ray f (X f) (Z f) in
      let shift = sum_in_z-shift (size Q.bank) (X f) (weight_at Q (multiplier v) (own_multiplier v f) ray f) (price (multiplier v) (length_side f)) in
      let stimuli = total_z-cond (stimuli_of Q.bank) (λ k. Z f (suc k)) (λ k. stimulus_weight (form_problem Q) (own_multiplier v f) (suc k)) in
      let lack = lack_and_have (price (multiplier v) (length_side f)) Q.plan.length (size_in Q.bank (X f)) in
      omega (arith, ints)

  -- the stimuli chosen, and those open that add something
  taken_up : Forms
  taken_up f s = is_chosen (form_problem Q) (form_path Q p f) s || (is_open (form_problem Q) (form_path Q p f) s && not (int_lt (stimulus_weight (form_problem Q) (own_multiplier v f) s) (pos 0)))

  best_stimuli : (f : ℕ) → stimuli_add f (taken_up f) ≡ total_z (stimuli_of Q.bank) (λ k. gain_of (form_problem Q) (form_path Q p f) (own_multiplier v f) (suc k))
  unfolding taken_up
  best_stimuli f =
      total_z-same (stimuli_of Q.bank) (λ k. cond (taken_up f (suc k)) (stimulus_weight (form_problem Q) (own_multiplier v f) (suc k)) (pos 0))
      (λ k. gain_of (form_problem Q) (form_path Q p f) (own_multiplier v f) (suc k))
      (λ k w. picked (is_chosen (form_problem Q) (form_path Q p f) (suc k)) (is_open (form_problem Q) (form_path Q p f) (suc k)) (stimulus_weight (form_problem Q) (own_multiplier v f) (suc k)))

  form_reached : (X : Forms) (f : ℕ) → form_lagrangian Q v ray f (X f) (taken_up f) +ℤ length_slack Q v X f ≡ share_of Q p v f +ℤ sum_in_z (size Q.bank) (X f) (count_at Q v ray f)
  form_reached X f =
      let parts = form_parts X taken_up f in
      let stimuli = best_stimuli f in
      omega (arith, ints)

  all_reached : (X : Forms) → pool_lagrangian Q v ray X taken_up ≡ (pos (uses Q v) +ℤ total_z Q.forms (share_of Q p v)) +ℤ total_z Q.forms (λ f. sum_in_z (size Q.bank) (X f) (count_at Q v ray f))
  all_reached X =
      let joined = total_z-plus Q.forms (λ f. form_lagrangian Q v ray f (X f) (taken_up f)) (length_slack Q v X) in
      let split = total_z-plus Q.forms (share_of Q p v) (λ f. sum_in_z (size Q.bank) (X f) (count_at Q v ray f)) in
      let each =
      total_z-same Q.forms (λ f. form_lagrangian Q v ray f (X f) (taken_up f) +ℤ length_slack Q v X f)
      (λ f. share_of Q p v f +ℤ sum_in_z (size Q.bank) (X f) (count_at Q v ray f))
      (λ f w. form_reached X f) in
      omega (arith, ints)

  -- ---- forms that are pooled
  module _ (X Z : Forms) (fits : ArePooled Q p X Z) where
    form_at_most : (f : ℕ) → f < Q.forms → (form_lagrangian Q v ray f (X f) (Z f) +ℤ length_slack Q v X f) ≤ℤ (share_of Q p v f +ℤ sum_in_z (size Q.bank) (X f) (count_at Q v ray f))
    form_at_most f w =
        let parts = form_parts X Z f in
        let stimuli =
        total_z-le (stimuli_of Q.bank) (λ k. cond (Z f (suc k)) (stimulus_weight (form_problem Q) (own_multiplier v f) (suc k)) (pos 0))
        (λ k. gain_of (form_problem Q) (form_path Q p f) (own_multiplier v f) (suc k))
        (λ k u. at_most_gain (is_chosen (form_problem Q) (form_path Q p f) (suc k)) (is_open (form_problem Q) (form_path Q p f) (suc k)) (Z f (suc k)) (stimulus_weight (form_problem Q) (own_multiplier v f) (suc k))
        (fits.holds_chosen f (suc k) w (omega arith) (omega arith)) (fits.else_open f (suc k) w (omega arith) (omega arith))) in
        omega (arith, ints)

    all_at_most : pool_lagrangian Q v ray X Z ≤ℤ ((pos (uses Q v) +ℤ total_z Q.forms (share_of Q p v)) +ℤ total_z Q.forms (λ f. sum_in_z (size Q.bank) (X f) (count_at Q v ray f)))
    all_at_most =
        let joined = total_z-plus Q.forms (λ f. form_lagrangian Q v ray f (X f) (Z f)) (length_slack Q v X) in
        let split = total_z-plus Q.forms (share_of Q p v) (λ f. sum_in_z (size Q.bank) (X f) (count_at Q v ray f)) in
        let each =
        total_z-le Q.forms (λ f. form_lagrangian Q v ray f (X f) (Z f) +ℤ length_slack Q v X f)
        (λ f. share_of Q p v f +ℤ sum_in_z (size Q.bank) (X f) (count_at Q v ray f)) form_at_most in
        omega (arith, ints)

    held : (f i : ℕ) → f < Q.forms → X f i ≡ true → holds Q p f i ≡ true
    held f i w e = elim (fits.else_free f i w e) [ inl taken ↦ or_left _ _ taken | inr free ↦ or_right (p.taken f i) (is_free_in Q p f i) free ]

    all_held : (i : ℕ) → in_some Q.forms X i ≡ true → any_below Q.forms (λ f. holds Q p f i) ≡ true
    all_held i e = let (f, w, has) = any_elim Q.forms (λ f. X f i) e in any_intro Q.forms (λ f. holds Q p f i) f w (held f i w has)

    sure_held : (i : ℕ) → i < size Q.bank → (is_placed Q p i || p.used i) ≡ true → in_some Q.forms X i ≡ true
    sure_held i w e =
        elim (or_true (is_placed Q p i) (p.used i) e) [
          | inl placed ↦ (let (f, u, taken) = any_elim Q.forms (λ f. p.taken f i) placed in any_intro Q.forms (λ f. X f i) f u (fits.holds_taken f i u taken))
          | inr uses ↦ (let (f, u, has) = fits.holds_used i w uses in any_intro Q.forms (λ f. X f i) f u has)
        ]

    all_counted : size_in Q.bank (in_some Q.forms X) ≡ Q.forms * Q.plan.length
    all_counted = sym (items_counted Q.forms (size Q.bank) X fits.apart) ∙ fits.n_items

    taken_apart : AreApart Q.forms p.taken
    taken_apart f g i u w a b = fits.apart f g i u w (fits.holds_taken f i u a) (fits.holds_taken g i w b)

    none_lost : is_use_lost Q p ≡ true → ⊥
    none_lost lost =
        let (i, w, e) = any_elim (size Q.bank) (λ i. p.used i && not (is_placed Q p i || is_live Q p i)) lost in
        let parts = and_parts (p.used i) _ e in
        let (f, u, has) = fits.holds_used i w parts.0 in
        let some : (is_placed Q p i || is_live Q p i) ≡ true =
        elim (fits.else_free f i u has) [
          | inl taken ↦ or_left _ _ (any_intro Q.forms (λ f. p.taken f i) f u taken)
          | inr free ↦ or_right (is_placed Q p i) (is_live Q p i) (any_intro Q.forms (λ f. is_free_in Q p f i) f u free)
        ] in
        true≢false (sym parts.1 ∙ ap not some)

-- ---- where there are no such forms
pub none_apart : (Q : SeriesProblem) (p : SeriesPath) (v : Multipliers) (ray : Bool) → (AreApart Q.forms p.taken → ⊥) → (r : ℤ) → IsPoolMaximum Q p v ray r → ⊥
none_apart Q p v ray not_apart r maximum = let (X, Z, fits, e) = maximum.reached in not_apart (taken_apart Q p v ray X Z fits)

pub none_used : (Q : SeriesProblem) (p : SeriesPath) (v : Multipliers) (ray : Bool) → is_use_lost Q p ≡ true → (r : ℤ) → IsPoolMaximum Q p v ray r → ⊥
none_used Q p v ray lost r maximum = let (X, Z, fits, e) = maximum.reached in none_lost Q p v ray X Z fits lost

-- the sure items are too many, or they and the open ones too few
pub none_filled : (Q : SeriesProblem) (p : SeriesPath) (v : Multipliers) (ray : Bool) (sure others : Set)
    → ((i : ℕ) → sure i ≡ (is_placed Q p i || p.used i))
    → ((i : ℕ) → others i ≡ (any_below Q.forms (λ f. holds Q p f i) && not (sure i)))
    → (Q.forms * Q.plan.length < size_in Q.bank sure) ⊎ (size_in Q.bank sure + size_in Q.bank others < Q.forms * Q.plan.length)
    → (r : ℤ) → IsPoolMaximum Q p v ray r → ⊥
none_filled Q p v ray sure others is_sure is_other impossible r maximum =
    let (X, Z, fits, e) = maximum.reached in
    let all = all_counted Q p v ray X Z fits in
    elim impossible [
      | inl many ↦
          let le = sum_in-le (size Q.bank) sure (in_some Q.forms X) (λ _. 1) (λ i w has. sure_held Q p v ray X Z fits i w (sym (is_sure i) ∙ has)) in
          omega (arith, many, le, all)
      | inr few ↦
          let le = sum_in-le (size Q.bank) (in_some Q.forms X) (λ i. sure i || others i) (λ _. 1) (λ i w has. in_either X Z fits i has) in
          let both = union_counts (size Q.bank) sure others in
          omega (arith, few, le, both, all)
    ]
  where
    in_either : (X Z : Forms) → ArePooled Q p X Z → (i : ℕ) → in_some Q.forms X i ≡ true → (sure i || others i) ≡ true
    in_either X Z fits i has =
        elim (either (sure i)) [
          | inl is ↦ or_left _ _ is
          | inr is_not ↦ or_right (sure i) (others i) (is_other i ∙ and_from _ _ (all_held Q p v ray X Z fits i has) (ap not is_not))
        ]

-- ---- on a path where no item is in two forms
module _ (Q : SeriesProblem) (p : SeriesPath) (taken_apart : AreApart Q.forms p.taken) where
  not_free : (f g i : ℕ) → f < Q.forms → p.taken f i ≡ true → (g ≡ f → ⊥) → is_free_in Q p g i ≡ true → ⊥
  not_free f g i u taken ne free =
      let not_out = (and_parts (not (p.taken g i)) (not (p.out g i || in_another Q p g i)) (and_parts (nat_lt i (size Q.bank)) _ free).1).1 in
      let other : in_another Q p g i ≡ true = any_intro Q.forms (λ h. not (h == g) && p.taken h i) f u (and_from _ _ (ap not (ne_eqb f g (λ e. ne (sym e)))) taken) in
      true≢false (sym not_out ∙ ap not (or_right (p.out g i) (in_another Q p g i) other))

  -- no other form has a taken item or may have it
  only_holder : (f g i : ℕ) → f < Q.forms → g < Q.forms → p.taken f i ≡ true → holds Q p g i ≡ true → g ≡ f
  only_holder f g i u w taken here =
      elim (or_true (p.taken g i) (is_free_in Q p g i) here) [
        | inl also ↦ taken_apart g f i w u also taken
        | inr free ↦ elim (cases_eq g f) [ inl same ↦ same | inr ne ↦ absurd (not_free f g i u taken ne free) ]
      ]

  sure_holds : is_use_lost Q p ≡ false → (i : ℕ) → i < size Q.bank → (is_placed Q p i || p.used i) ≡ true → any_below Q.forms (λ f. holds Q p f i) ≡ true
  sure_holds kept i w e =
      elim (or_true (is_placed Q p i) (p.used i) e) [
        | inl placed ↦ by_form placed
        | inr uses ↦
            elim (either (is_placed Q p i || is_live Q p i)) [
              | inl some ↦
                  elim (or_true (is_placed Q p i) (is_live Q p i) some) [
                    | inl placed ↦ by_form placed
                    | inr live ↦ (let (f, u, free) = any_elim Q.forms (λ f. is_free_in Q p f i) live in any_intro Q.forms (λ f. holds Q p f i) f u (or_right (p.taken f i) (is_free_in Q p f i) free))
                  ]
              | inr none ↦ absurd (true≢false (sym (any_intro (size Q.bank) (λ i. p.used i && not (is_placed Q p i || is_live Q p i)) i w (and_from _ _ uses (ap not none))) ∙ kept))
            ]
      ]
    where
      by_form : is_placed Q p i ≡ true → any_below Q.forms (λ f. holds Q p f i) ≡ true
      by_form placed = let (f, u, taken) = any_elim Q.forms (λ f. p.taken f i) placed in any_intro Q.forms (λ f. holds Q p f i) f u (or_left _ _ taken)

-- ---- the sets that fill the forms
module _ (Q : SeriesProblem) (p : SeriesPath) (v : Multipliers) (ray : Bool) (taken_apart : AreApart Q.forms p.taken) (kept : is_use_lost Q p ≡ false) (part : Part) (pool : IsPoolTo Q p v ray Q.forms part)
    (sure others T : Set) (k : ℕ) (is_sure : (i : ℕ) → sure i ≡ (is_placed Q p i || p.used i)) (is_other : (i : ℕ) → others i ≡ (has part.holds i && not (sure i)))
    (top : IsTopOf (size Q.bank) part.counts others k T) (fills : size_in Q.bank sure + k ≡ Q.forms * Q.plan.length)
  where
    abbrev C : ℕ → ℤ
    C = at part.counts

    -- an item that is taken beside those in a form
    abbrev added : Set
    added i = nat_lt i (size Q.bank) && ((sure i || T i) && not (is_placed Q p i))

    T_holds : (i : ℕ) → T i ≡ true → (has part.holds i ≡ true) × (sure i ≡ false)
    T_holds i e = let parts = and_parts (has part.holds i) (not (sure i)) (sym (is_other i) ∙ top.within i e) in (parts.0, not_true (sure i) parts.1)

    in_pool : (i : ℕ) → i < size Q.bank → (sure i || T i) ≡ true → has part.holds i ≡ true
    in_pool i w e =
        elim (or_true (sure i) (T i) e) [
          | inl is ↦ pool.holders i ∙ sure_holds Q p taken_apart kept i w (sym (is_sure i) ∙ is)
          | inr is ↦ (T_holds i is).0
        ]

    chosen_form : (i : ℕ) → added i ≡ true → (f : ℕ) × CountsIn Q p v ray Q.forms i (C i) f
    chosen_form i e =
        let parts = and_parts (nat_lt i (size Q.bank)) _ e in
        let low = ltb-true i (size Q.bank) parts.0 in
        pool.reached i low (in_pool i low (and_parts (sure i || T i) _ parts.1).0)

    form_of : ℕ → ℕ
    form_of i = choose (CountsIn Q p v ray Q.forms i (C i)) (added i) (chosen_form i)

    form_is : (i : ℕ) → added i ≡ true → CountsIn Q p v ray Q.forms i (C i) (form_of i)
    unfolding form_of
    form_is i e = choose_is (CountsIn Q p v ray Q.forms i (C i)) (added i) (chosen_form i) e

    filled : Forms
    filled f i = p.taken f i || (added i && f == form_of i)

    member : (f i : ℕ) → filled f i ≡ true → (p.taken f i ≡ true) ⊎ ((added i ≡ true) × (f ≡ form_of i))
    unfolding filled
    member f i e =
        elim (or_true (p.taken f i) (added i && f == form_of i) e) [
          | inl taken ↦ inl taken
          | inr new ↦ (let parts = and_parts (added i) (f == form_of i) new in inr (parts.0, eqb-true f (form_of i) parts.1))
        ]

    has_taken : (f i : ℕ) → p.taken f i ≡ true → filled f i ≡ true
    unfolding filled
    has_taken f i e = or_left (p.taken f i) (added i && f == form_of i) e

    has_added : (i : ℕ) → added i ≡ true → filled (form_of i) i ≡ true
    unfolding filled
    has_added i e = or_right (p.taken (form_of i) i) (added i && form_of i == form_of i) (and_from _ _ e (eq-eqb (form_of i) (form_of i) refl))

    not_both : (f i : ℕ) → f < Q.forms → p.taken f i ≡ true → added i ≡ true → ⊥
    not_both f i u taken e =
        let free = (and_parts (sure i || T i) (not (is_placed Q p i)) (and_parts (nat_lt i (size Q.bank)) _ e).1).1 in
        true≢false (sym free ∙ ap not (any_intro Q.forms (λ f. p.taken f i) f u taken))

    filled_apart : (f g i : ℕ) → f < Q.forms → g < Q.forms → filled f i ≡ true → filled g i ≡ true → f ≡ g
    filled_apart f g i u w a b =
        elim (member f i a) [
          | inl taken ↦ elim (member g i b) [ inl also ↦ taken_apart f g i u w taken also | inr new ↦ absurd (not_both f i u taken new.0) ]
          | inr new ↦ elim (member g i b) [ inl also ↦ absurd (not_both g i w also new.0) | inr again ↦ new.1 ∙ sym again.1 ]
        ]

    filled_holds : (f i : ℕ) → f < Q.forms → filled f i ≡ true → holds Q p f i ≡ true
    filled_holds f i u e =
        elim (member f i e) [
          | inl taken ↦ or_left _ _ taken
          | inr new ↦ subst (λ (g : ℕ). holds Q p g i ≡ true) (sym new.1) (form_is i new.0).holder
        ]

    filled_counts : (f i : ℕ) → f < Q.forms → i < size Q.bank → filled f i ≡ true → count_at Q v ray f i ≡ C i
    filled_counts f i u w e =
        elim (member f i e) [
          | inl taken ↦
              let (g, in_g) = pool.reached i w (in_pool i w (or_left (sure i) (T i) (is_sure i ∙ or_left _ _ (any_intro Q.forms (λ f. p.taken f i) f u taken)))) in
              let same = only_holder Q p taken_apart f g i u in_g.form taken in_g.holder in
              ap (λ (h : ℕ). count_at Q v ray h i) (sym same) ∙ sym in_g.count
          | inr new ↦ ap (λ (h : ℕ). count_at Q v ray h i) new.1 ∙ sym (form_is i new.0).count
        ]

    is_filled : (i : ℕ) → i < size Q.bank → (sure i || T i) ≡ true → in_some Q.forms filled i ≡ true
    is_filled i w e =
        elim (either (is_placed Q p i)) [
          | inl placed ↦ (let (f, u, taken) = any_elim Q.forms (λ f. p.taken f i) placed in any_intro Q.forms (λ f. filled f i) f u (has_taken f i taken))
          | inr not_placed ↦
              let new : added i ≡ true = and_from _ _ (lt-ltb i (size Q.bank) w) (and_from _ _ e (ap not not_placed)) in
              any_intro Q.forms (λ f. filled f i) (form_of i) (form_is i new).form (has_added i new)
        ]

    filled_is : (i : ℕ) → in_some Q.forms filled i ≡ true → (sure i || T i) ≡ true
    filled_is i e =
        let (f, u, has) = any_elim Q.forms (λ f. filled f i) e in
        elim (member f i has) [
          | inl taken ↦ or_left (sure i) (T i) (is_sure i ∙ or_left _ _ (any_intro Q.forms (λ f. p.taken f i) f u taken))
          | inr new ↦ (and_parts (sure i || T i) _ (and_parts (nat_lt i (size Q.bank)) _ new.0).1).0
        ]

    filled_split : (i : ℕ) → i < size Q.bank → (in_some Q.forms filled i ≡ (sure i || T i)) × ((sure i && T i) ≡ false)
    filled_split i w = (same_truth _ _ (filled_is i) (is_filled i w), apart (sure i) (T i) (λ e. (T_holds i e).1))

    filled_counted : pool_size Q filled ≡ Q.forms * Q.plan.length
    filled_counted =
        let forms = items_counted Q.forms (size Q.bank) filled filled_apart in
        let split = count_in-split (size Q.bank) (in_some Q.forms filled) sure T filled_split in
        let number = top.number in
        omega (arith, forms, split, number, fills)

    filled_fits : ArePooled Q p filled (taken_up Q p v ray)
    unfolding taken_up
    filled_fits =
        record {
          n_items = filled_counted;
          apart = filled_apart;
          holds_taken = λ f i u. has_taken f i;
          else_free = λ f i u e. or_true (p.taken f i) (is_free_in Q p f i) (filled_holds f i u e);
          holds_used = λ i w e. any_elim Q.forms (λ f. filled f i) (is_filled i w (or_left (sure i) (T i) (is_sure i ∙ or_right (is_placed Q p i) (p.used i) e)));
          holds_chosen = λ f s u first last e. or_left _ _ e;
          else_open = λ f s u first last e. elim (or_true (is_chosen (form_problem Q) (form_path Q p f) s) _ e) [ inl chosen ↦ inl chosen | inr opened ↦ inr (and_parts (is_open (form_problem Q) (form_path Q p f) s) _ opened).0 ];
        }

    filled_value : pool_lagrangian Q v ray filled (taken_up Q p v ray) ≡ part.rest +ℤ (sum_in_z (size Q.bank) sure C +ℤ sum_in_z (size Q.bank) T C)
    filled_value =
        let all = all_reached Q p v ray filled in
        let items = items_are Q.forms (size Q.bank) filled (count_at Q v ray) C filled_apart filled_counts in
        let split = sum_in_z-split (size Q.bank) (in_some Q.forms filled) sure T C filled_split in
        let rest = pool.rest in
        omega (arith, ints)

    most : (X Z : Forms) → ArePooled Q p X Z → pool_lagrangian Q v ray X Z ≤ℤ (part.rest +ℤ (sum_in_z (size Q.bank) sure C +ℤ sum_in_z (size Q.bank) T C))
    most X Z fits =
        let (t, above, below) = threshold (size Q.bank) part.counts others k T top in
        let all = all_at_most Q p v ray X Z fits in
        let items = items_at_most Q.forms (size Q.bank) X (count_at Q v ray) C fits.apart (λ f i u w e. pool.greatest f i u w (held Q p v ray X Z fits f i u e)) in
        let number : size_in Q.bank (in_some Q.forms X) ≡ size_in Q.bank sure + size_in Q.bank T = (let n = all_counted Q p v ray X Z fits in let m = top.number in omega (arith, n, m, fills)) in
        let sets =
        set_at_most (size Q.bank) sure others T (in_some Q.forms X) C t above below
        (λ i w e. sure_held Q p v ray X Z fits i w (sym (is_sure i) ∙ e))
        (λ i w e not_sure. is_other i ∙ and_from _ _ (pool.holders i ∙ all_held Q p v ray X Z fits i e) (ap not not_sure))
        number in
        let rest = pool.rest in
        omega (arith, ints)

    pub pool_is : IsPoolMaximum Q p v ray (part.rest +ℤ (sum_in_z (size Q.bank) sure C +ℤ sum_in_z (size Q.bank) T C))
    pool_is = record { reached = (filled, taken_up Q p v ray, filled_fits, filled_value); greatest = most }
