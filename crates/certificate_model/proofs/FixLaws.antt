-- Fixing by reduced costs keeps each form that is better than the goal.
use Rattle.std.proofs.Common.{◌≡◌, ℕ, zero, suc, ◌-◌, ◌*◌, ◌≤◌, ◌<◌, ◌⊎◌, inl, inr, Bool, true, false, cond, not, ◌&&◌, ◌||◌, ◌==◌, length, ℤ, pos, ◌+ℤ◌, ◌-ℤ◌, ◌*ℤ◌, neg_ℤ, ◌≤ℤ◌, refl, sym, ap, ◌∙◌, arith, nat_lt}
use Rattle.std.specs.Prelude.{int_lt}
use Rattle.std.proofs.lemmas.Int.{ints}
use Rattle.std.proofs.lemmas.Bool.{lt-ltb, ltb-true, eq-eqb, eqb-true, eqb-false, not-true, and_parts, and_from}
use Rattle.std.proofs.Math.Bool.{true≢false}
use Rattle.bank_tables.specs.Items.{Set}
use Rattle.bank_tables.specs.Sums.{count_in, sum_in, sum_in_z, total_z}
use Rattle.bank_tables.specs.Tables.{size, info, stimulus}
use Rattle.form_model.specs.Plan.{bound_at}
use Rattle.form_model.specs.Problem.{Problem}
use Rattle.form_model.specs.Forms.{stimuli_of, used, objective}
use Rattle.certificate_model.specs.Fixing.{place_price, margin, above_zero, is_single, is_free_of, stimulus_margin, stimulus_most, places_left, fixing_bound, room, fills_room, loss_with, is_too_dear, has_too_few, is_put_out, is_taken_in, is_settled_on, fixed_path}
use Rattle.certificate_model.specs.Paths.{Path, Under, is_free, is_chosen, is_open}
use Rattle.certificate_model.specs.Relaxed.{Multipliers, multiplier, weighted_slacks, weighted_stimulus_slacks, lagrangian_without_links}
use Rattle.certificate_model.specs.Weights.{weight, item_weight, stimulus_weight, rows_constant}
use Rattle.form_model.proofs.SumLaws.{either, or_true, or_left, or_right, any_intro, any_elim, at_most_greatest, nonneg_total, sum_in-scale, count_some}
use Rattle.certificate_model.proofs.ClosedFormLaws.{item_is, stimulus_is, constant_is, sum_in_z-same}
use Rattle.certificate_model.proofs.Duality.{held_is_taken_or_free, used_chosen_or_open, row_nonneg, stimulus_nonneg, own_stimulus_used}
use Rattle.certificate_model.proofs.Greatest.{sum_in_z-shift, sum_in_z-split, count_in-split}
use Rattle.certificate_model.proofs.Reduced.{at, unlinked, lagrangian-unlinked, by_stimulus, total_z-add, total_z-same, total_z-cond}

-- ---- what is above 0
above_is : (z : ℤ) → above_zero z ≡ z +ℤ above_zero (neg_ℤ z)
above_is z =
    elim (either (int_lt z (pos 0))) [
      | inl low ↦ elim (either (int_lt (neg_ℤ z) (pos 0))) [ inl low2 ↦ rw (low, low2) (omega (arith, ints)) | inr high2 ↦ rw (low, high2) (omega (arith, ints)) ]
      | inr high ↦ elim (either (int_lt (neg_ℤ z) (pos 0))) [ inl low2 ↦ rw (high, low2) (omega (arith, ints)) | inr high2 ↦ rw (high, high2) (omega (arith, ints)) ]
    ]

above_nonneg : (z : ℤ) → pos 0 ≤ℤ above_zero z
above_nonneg z = elim (either (int_lt z (pos 0))) [ inl low ↦ rw low (omega (arith, ints)) | inr high ↦ rw high (omega (arith, ints)) ]

-- ---- sums
last_or : (i n : ℕ) → i < suc n → (i < n) ⊎ (i ≡ n)
last_or i n w = grind arith

-- one of several terms that are none below 0
term_le : (n : ℕ) (f : ℕ → ℤ) (k : ℕ) → ((i : ℕ) → i < n → pos 0 ≤ℤ f i) → k < n → f k ≤ℤ total_z n f
term_le zero f k h w = absurd (omega arith)
term_le (suc n) f k h w =
    elim (last_or k n w) [
      | inl before ↦ omega (arith, ints, term_le n f k (λ i w. h i (omega arith)) before, h n (omega arith))
      | inr here ↦
          let same : f k ≡ f n = ap f here in
          omega (arith, ints, nonneg_total n f (λ i w. h i (omega arith)))
    ]

total_none : (n : ℕ) (f : ℕ → ℤ) → ((i : ℕ) → i < n → f i ≡ pos 0) → total_z n f ≡ pos 0
total_none zero f h = refl
total_none (suc n) f h = omega (arith, ints, total_none n f (λ i w. h i (omega arith)), h n (omega arith))

total_z-sub : (n : ℕ) (f g : ℕ → ℤ) → total_z n (λ i. f i -ℤ g i) ≡ total_z n f -ℤ total_z n g
total_z-sub zero f g = omega (arith, ints)
total_z-sub (suc n) f g = omega (arith, ints, total_z-sub n f g)

module _ (P : Problem) (p : Path) (v : Multipliers) (X : Set) (under : Under P p X) where
  abbrev n : ℕ
  n = size P.bank

  abbrev top : ℕ
  top = stimuli_of P.bank

  abbrev W : ℕ → ℤ
  W = item_weight P (multiplier v) false

  abbrev U : ℕ → ℤ
  U = stimulus_weight P (multiplier v)

  -- the free items of X
  abbrev held_free : Set
  held_free i = X i && is_free P p i

  -- 256 times the objective is at most the constant and the weights of the items and stimuli
  weight_le : pos (256 * objective P X) ≤ℤ (rows_constant P (multiplier v) +ℤ (sum_in_z n X W +ℤ total_z top (λ k. cond (used P.bank X (suc k)) (U (suc k)) (pos 0))))
  unfolding lagrangian_without_links
  weight_le =
      let meets = under.form.meets in
      let rows = nonneg_total (length P.plan.rows) (weighted_slacks P v X (used P.bank X)) (row_nonneg P X meets v) in
      let stimuli = nonneg_total top (λ k. weighted_stimulus_slacks P v X (used P.bank X) (suc k)) (λ k w. stimulus_nonneg P X meets v (suc k) (omega arith) (omega arith)) in
      let e : sum_in n X (weight P false) ≡ 256 * objective P X = sum_in-scale n X 256 (λ i. info P.bank i P.theta) in
      let linear = lagrangian-unlinked P v false X (used P.bank X) in
      let constant = constant_is P v false in
      let items = sum_in_z-same n X (unlinked P v false).item W (λ i w member. item_is P v false i w) in
      let chosen = sum_in_z-same top (λ k. used P.bank X (suc k)) (λ k. (unlinked P v false).stimulus (suc k)) (λ k. U (suc k)) (λ k w member. stimulus_is P v false (suc k)) in
      let cases = total_z-cond top (λ k. used P.bank X (suc k)) (λ k. U (suc k)) in
      omega (arith, ints)

  not_free : (i : ℕ) → p.taken i ≡ true → is_free P p i ≡ false
  not_free i e = rw e (none (nat_lt i n))
    where
      none : (b : Bool) → (b && (false && not (p.out i))) ≡ false
      none true = refl
      none false = refl

  -- an item of X is taken, or one of its free ones, and not both
  parts : (i : ℕ) → i < n → (X i ≡ (p.taken i || held_free i)) × ((p.taken i && held_free i) ≡ false)
  parts i w =
      elim (either (p.taken i)) [
        | inl taken ↦ of_taken (X i) (p.taken i) (is_free P p i) (under.holds_taken i taken) taken (not_free i taken)
        | inr not_taken ↦
            elim (either (X i)) [
              | inl held ↦
                  elim (held_is_taken_or_free P p X under i held) [
                    | inl taken ↦ absurd (true≢false (sym taken ∙ not_taken))
                    | inr free ↦ of_free (X i) (p.taken i) (is_free P p i) held not_taken free
                  ]
              | inr not_held ↦ of_none (X i) (p.taken i) (is_free P p i) not_held not_taken
            ]
      ]
    where
      of_taken : (x t f : Bool) → x ≡ true → t ≡ true → f ≡ false → (x ≡ (t || (x && f))) × ((t && (x && f)) ≡ false)
      of_taken true true false a b c = (refl, refl)
      of_taken true true true a b c = absurd (true≢false c)
      of_taken true false f a b c = absurd (true≢false (sym b))
      of_taken false t f a b c = absurd (true≢false (sym a))

      of_free : (x t f : Bool) → x ≡ true → t ≡ false → f ≡ true → (x ≡ (t || (x && f))) × ((t && (x && f)) ≡ false)
      of_free true false true a b c = (refl, refl)
      of_free true false false a b c = absurd (true≢false (sym c))
      of_free true true f a b c = absurd (true≢false b)
      of_free false t f a b c = absurd (true≢false (sym a))

      of_none : (x t f : Bool) → x ≡ false → t ≡ false → (x ≡ (t || (x && f))) × ((t && (x && f)) ≡ false)
      of_none false false f a b = (refl, refl)
      of_none false true f a b = absurd (true≢false b)
      of_none true t f a b = absurd (true≢false a)

  places : count_in n held_free (λ _. true) ≡ places_left P p
  places = let e = count_in-split n X p.taken held_free parts in let full = under.form.meets.right_length.n_items in omega arith

  -- the items of X weigh what is taken, the price of the places left, and the margins of its free
  -- items
  items_weigh : sum_in_z n X W ≡ sum_in_z n p.taken W +ℤ ((pos (places_left P p) *ℤ place_price v) +ℤ sum_in_z n held_free (margin P v))
  unfolding margin
  items_weigh =
      let split = sum_in_z-split n X p.taken held_free W parts in
      let shift = sum_in_z-shift n held_free W (place_price v) in
      let e : pos (count_in n held_free (λ _. true)) *ℤ place_price v ≡ pos (places_left P p) *ℤ place_price v = ap (λ (m : ℕ). pos m *ℤ place_price v) places in
      omega (arith, ints)

  -- ---- single items, and items of open stimuli
  abbrev open_of : ℕ → Bool
  open_of i = is_open P p (stimulus P.bank i)

  single_part : ℕ → ℤ
  single_part i = cond (is_single P p i) (cond (X i) (margin P v i) (pos 0)) (pos 0)

  linked_part : ℕ → ℤ
  linked_part i = cond (open_of i) (cond (held_free i) (margin P v i) (pos 0)) (pos 0)

  two_parts : (x f o : Bool) (m : ℤ) → cond (x && f) m (pos 0) ≡ cond (f && not o) (cond x m (pos 0)) (pos 0) +ℤ cond o (cond (x && f) m (pos 0)) (pos 0)
  two_parts true true true m = omega (arith, ints)
  two_parts true true false m = omega (arith, ints)
  two_parts true false true m = refl
  two_parts true false false m = refl
  two_parts false true true m = refl
  two_parts false true false m = refl
  two_parts false false true m = refl
  two_parts false false false m = refl

  none_open : (s : ℕ) → s ≡ 0 → is_open P p s ≡ false
  none_open s e = ap (λ (t : ℕ). is_open P p t) e ∙ no_and (not (is_chosen P p 0))
    where
      no_and : (b : Bool) → (b && false) ≡ false
      no_and true = refl
      no_and false = refl

  twice : (o : Bool) (m : ℤ) → cond o (cond o m (pos 0)) (pos 0) ≡ cond o m (pos 0)
  twice true m = refl
  twice false m = refl

  -- what the items of X of an open stimulus add
  linked_of : ℕ → ℤ
  linked_of s = sum_in_z n (λ i. stimulus P.bank i == s) linked_part

  margins_part : sum_in_z n held_free (margin P v) ≡ total_z n single_part +ℤ total_z top (λ k. cond (is_open P p (suc k)) (linked_of (suc k)) (pos 0))
  unfolding single_part linked_part linked_of
  margins_part =
      let cases = total_z-cond n held_free (margin P v) in
      let split = total_z-same n (λ i. cond (held_free i) (margin P v i) (pos 0)) (λ i. single_part i +ℤ linked_part i) (λ i w. two_parts (X i) (is_free P p i) (open_of i) (margin P v i)) in
      let sum = total_z-add n single_part linked_part in
      let again = total_z-same n (λ i. cond (open_of i) (linked_part i) (pos 0)) linked_part (λ i w. twice (open_of i) (cond (held_free i) (margin P v i) (pos 0))) in
      let grouped = by_stimulus n top (stimulus P.bank) (is_open P p) linked_part (at_most_greatest n (stimulus P.bank)) (λ i e. ap (λ (o : Bool). cond o (cond (held_free i) (margin P v i) (pos 0)) (pos 0)) (none_open (stimulus P.bank i) e)) in
      let stimuli = total_z-cond top (λ k. is_open P p (suc k)) (λ k. linked_of (suc k)) in
      omega (arith, ints)

  -- ---- what X loses against the bound
  single_loss : ℕ → ℤ
  single_loss i = cond (is_single P p i) (above_zero (margin P v i)) (pos 0) -ℤ single_part i

  stimulus_part : ℕ → ℤ
  stimulus_part s = cond (used P.bank X s) (U s) (pos 0) +ℤ cond (is_open P p s) (linked_of s) (pos 0)

  stimulus_loss : ℕ → ℤ
  stimulus_loss s = stimulus_most P p v s -ℤ stimulus_part s

  losses : (pos (256 * objective P X) +ℤ (total_z n single_loss +ℤ total_z top (λ k. stimulus_loss (suc k)))) ≤ℤ fixing_bound P p v
  unfolding fixing_bound single_loss stimulus_loss stimulus_part
  losses =
      let weigh = weight_le in
      let items = items_weigh in
      let margins = margins_part in
      let singles = total_z-sub n (λ i. cond (is_single P p i) (above_zero (margin P v i)) (pos 0)) single_part in
      let above = total_z-cond n (is_single P p) (λ i. above_zero (margin P v i)) in
      let stimuli = total_z-sub top (λ k. stimulus_most P p v (suc k)) (λ k. stimulus_part (suc k)) in
      let both = total_z-add top (λ k. cond (used P.bank X (suc k)) (U (suc k)) (pos 0)) (λ k. cond (is_open P p (suc k)) (linked_of (suc k)) (pos 0)) in
      omega (arith, ints)

  single_nonneg : (f x : Bool) (m : ℤ) → pos 0 ≤ℤ (cond f (above_zero m) (pos 0) -ℤ cond f (cond x m (pos 0)) (pos 0))
  single_nonneg true true m = omega (arith, ints, above_is m, above_nonneg (neg_ℤ m))
  single_nonneg true false m = omega (arith, ints, above_nonneg m)
  single_nonneg false x m = omega (arith, ints)

  single_loss_nonneg : (i : ℕ) → i < n → pos 0 ≤ℤ single_loss i
  unfolding single_loss single_part
  single_loss_nonneg i w = single_nonneg (is_single P p i) (X i) (margin P v i)

  -- ---- what X loses at an open stimulus
  module _ (s : ℕ) (opened : is_open P p s ≡ true) where
    item_loss : ℕ → ℤ
    item_loss i = cond (is_free_of P p s i) (above_zero (margin P v i)) (pos 0) -ℤ cond (stimulus P.bank i == s) (linked_part i) (pos 0)

    -- of an item of the stimulus
    loss_of : (i : ℕ) → stimulus P.bank i ≡ s → item_loss i ≡ cond (is_free P p i) (above_zero (margin P v i)) (pos 0) -ℤ cond (X i && is_free P p i) (margin P v i) (pos 0)
    unfolding item_loss linked_part
    loss_of i e = here (is_free P p i) (stimulus P.bank i == s) (open_of i) (X i) (eq-eqb _ _ e) (ap (λ (t : ℕ). is_open P p t) e ∙ opened)
      where
        here : (f t o x : Bool) → t ≡ true → o ≡ true
            → cond (f && t) (above_zero (margin P v i)) (pos 0) -ℤ cond t (cond o (cond (x && f) (margin P v i) (pos 0)) (pos 0)) (pos 0)
            ≡ cond f (above_zero (margin P v i)) (pos 0) -ℤ cond (x && f) (margin P v i) (pos 0)
        here true true true x a b = refl
        here false true true x a b = refl
        here f true false x a b = absurd (true≢false (sym b))
        here f false o x a b = absurd (true≢false (sym a))

    other_loss : (i : ℕ) → (stimulus P.bank i == s) ≡ false → item_loss i ≡ pos 0
    unfolding item_loss
    other_loss i e = here (is_free P p i) (stimulus P.bank i == s) e
      where
        here : (f t : Bool) → t ≡ false → cond (f && t) (above_zero (margin P v i)) (pos 0) -ℤ cond t (linked_part i) (pos 0) ≡ pos 0
        here true false a = refl
        here false false a = refl
        here f true a = absurd (true≢false a)

    linked_nonneg : (x f : Bool) (m : ℤ) → pos 0 ≤ℤ (cond f (above_zero m) (pos 0) -ℤ cond (x && f) m (pos 0))
    linked_nonneg true true m = omega (arith, ints, above_is m, above_nonneg (neg_ℤ m))
    linked_nonneg true false m = omega (arith, ints)
    linked_nonneg false true m = omega (arith, ints, above_nonneg m)
    linked_nonneg false false m = omega (arith, ints)

    item_nonneg : (i : ℕ) → i < n → pos 0 ≤ℤ item_loss i
    item_nonneg i w =
        elim (either (stimulus P.bank i == s)) [
          | inl at ↦ let e = loss_of i (eqb-true _ _ at) in let f = linked_nonneg (X i) (is_free P p i) (margin P v i) in omega (arith, ints)
          | inr other ↦ let e = other_loss i other in omega (arith, ints)
        ]

    -- the items lose what their stimulus could have beside its weight
    all_items : stimulus_margin P p v s ≡ (U s +ℤ linked_of s) +ℤ total_z n item_loss
    unfolding stimulus_margin item_loss linked_of
    all_items =
        let split = total_z-sub n (λ i. cond (is_free_of P p s i) (above_zero (margin P v i)) (pos 0)) (λ i. cond (stimulus P.bank i == s) (linked_part i) (pos 0)) in
        let free = total_z-cond n (is_free_of P p s) (λ i. above_zero (margin P v i)) in
        let linked = total_z-cond n (λ i. stimulus P.bank i == s) linked_part in
        omega (arith, ints)

    most_is : stimulus_most P p v s ≡ above_zero (stimulus_margin P p v s)
    unfolding stimulus_most
    most_is = here (is_chosen P p s) (is_open P p s) (not-true _ (and_parts (not (is_chosen P p s)) _ opened).0) opened
      where
        here : (c o : Bool) → c ≡ false → o ≡ true → cond c (U s) (cond o (above_zero (stimulus_margin P p v s)) (pos 0)) ≡ above_zero (stimulus_margin P p v s)
        here false true a b = refl
        here false false a b = absurd (true≢false (sym b))
        here true o a b = absurd (true≢false a)

    -- where X uses it: the margin below 0, and what its items lose
    used_loss : used P.bank X s ≡ true → stimulus_loss s ≡ above_zero (neg_ℤ (stimulus_margin P p v s)) +ℤ total_z n item_loss
    unfolding stimulus_loss stimulus_part
    used_loss e =
        let most = most_is in
        let items = all_items in
        let above = above_is (stimulus_margin P p v s) in
        rw (e, opened) (omega (arith, ints))

    -- where it does not: the margin above 0
    unused_loss : used P.bank X s ≡ false → stimulus_loss s ≡ above_zero (stimulus_margin P p v s)
    unfolding stimulus_loss stimulus_part linked_of linked_part
    unused_loss e = let most = most_is in let none = none_linked in rw (e, opened) (omega (arith, ints))
      where
        no_item : (i : ℕ) → stimulus P.bank i ≡ s → X i ≡ false
        no_item i at =
            elim (either (X i)) [
              | inl held ↦
                  let used_it = own_stimulus_used P X under.form.meets i held (some_stimulus i at) in
                  absurd (true≢false (sym used_it ∙ ap (λ (t : ℕ). used P.bank X t) at ∙ e))
              | inr not_held ↦ not_held
            ]
          where
            some_stimulus : (i : ℕ) → stimulus P.bank i ≡ s → (stimulus P.bank i == 0) ≡ false
            some_stimulus i at =
                elim (either (stimulus P.bank i == 0)) [
                  | inl zero_is ↦ absurd (true≢false (sym opened ∙ none_open s (sym at ∙ eqb-true _ _ zero_is)))
                  | inr some ↦ some
                ]

        no_part : (i : ℕ) → i < n → cond (stimulus P.bank i == s) (linked_part i) (pos 0) ≡ pos 0
        no_part i w =
            elim (either (stimulus P.bank i == s)) [
              | inl at ↦ here (stimulus P.bank i == s) (open_of i) (X i) (is_free P p i) (no_item i (eqb-true _ _ at))
              | inr other ↦ rw other refl
            ]
          where
            here : (t o x f : Bool) → x ≡ false → cond t (cond o (cond (x && f) (margin P v i) (pos 0)) (pos 0)) (pos 0) ≡ pos 0
            here true true false f a = refl
            here true false false f a = refl
            here false o false f a = refl
            here t o true f a = absurd (true≢false a)

        none_linked : sum_in_z n (λ i. stimulus P.bank i == s) linked_part ≡ pos 0
        none_linked = sym (total_z-cond n (λ i. stimulus P.bank i == s) linked_part) ∙ total_none n (λ i. cond (stimulus P.bank i == s) (linked_part i) (pos 0)) no_part

  closed_most : (s : ℕ) → is_open P p s ≡ false → used P.bank X s ≡ is_chosen P p s → stimulus_loss s ≡ pos 0
  unfolding stimulus_loss stimulus_part stimulus_most
  closed_most s closed same = here (used P.bank X s) (is_chosen P p s) (is_open P p s) same closed
    where
      here : (z c o : Bool) → z ≡ c → o ≡ false
          → cond c (U s) (cond o (above_zero (stimulus_margin P p v s)) (pos 0)) -ℤ (cond z (U s) (pos 0) +ℤ cond o (linked_of s) (pos 0)) ≡ pos 0
      here true true false a b = omega (arith, ints)
      here false false false a b = omega (arith, ints)
      here true false o a b = absurd (true≢false a)
      here false true o a b = absurd (true≢false (sym a))
      here z c true a b = absurd (true≢false b)

  used_as_chosen : (s : ℕ) → 0 < s → s ≤ top → is_open P p s ≡ false → used P.bank X s ≡ is_chosen P p s
  used_as_chosen s first last closed =
      elim (either (is_chosen P p s)) [
        | inl chosen ↦ under.uses_chosen s first last chosen ∙ sym chosen
        | inr not_chosen ↦
            elim (either (used P.bank X s)) [
              | inl uses ↦
                  elim (used_chosen_or_open P p X under s uses) [
                    | inl chosen ↦ absurd (true≢false (sym chosen ∙ not_chosen))
                    | inr opened ↦ absurd (true≢false (sym opened ∙ closed))
                  ]
              | inr unused ↦ unused ∙ sym not_chosen
            ]
      ]

  stimulus_loss_nonneg : (s : ℕ) → 0 < s → s ≤ top → pos 0 ≤ℤ stimulus_loss s
  stimulus_loss_nonneg s first last =
      elim (either (is_open P p s)) [
        | inl opened ↦
            elim (either (used P.bank X s)) [
              | inl uses ↦
                  let e = used_loss s opened uses in
                  let items = nonneg_total n (item_loss s opened) (item_nonneg s opened) in
                  omega (arith, ints, above_nonneg (neg_ℤ (stimulus_margin P p v s)))
              | inr unused ↦ let e = unused_loss s opened unused in omega (arith, ints, above_nonneg (stimulus_margin P p v s))
            ]
        | inr closed ↦ let e = closed_most s closed (used_as_chosen s first last closed) in omega (arith, ints)
      ]

  module _ (goal : ℕ) (better : goal < objective P X) where
    -- what X loses in all is less than the room
    all_losses : ((total_z n single_loss +ℤ total_z top (λ k. stimulus_loss (suc k))) +ℤ pos 1) ≤ℤ room P p v goal
    unfolding room
    all_losses = let sum = losses in omega (arith, ints)

    singles_nonneg : pos 0 ≤ℤ total_z n single_loss
    singles_nonneg = nonneg_total n single_loss single_loss_nonneg

    stimuli_nonneg : pos 0 ≤ℤ total_z top (λ k. stimulus_loss (suc k))
    stimuli_nonneg = nonneg_total top (λ k. stimulus_loss (suc k)) (λ k w. stimulus_loss_nonneg (suc k) (omega arith) (omega arith))

    single_small : (i : ℕ) → i < n → (single_loss i +ℤ pos 1) ≤ℤ room P p v goal
    single_small i w =
        let all = all_losses in
        let one = term_le n single_loss i single_loss_nonneg w in
        let others = stimuli_nonneg in
        omega (arith, ints)

    stimulus_small : (s : ℕ) → 0 < s → s ≤ top → (stimulus_loss s +ℤ pos 1) ≤ℤ room P p v goal
    stimulus_small s first last =
        let back : suc (s - 1) ≡ s = omega arith in
        let all = all_losses in
        let one = term_le top (λ k. stimulus_loss (suc k)) (s - 1) (λ k w. stimulus_loss_nonneg (suc k) (omega arith) (omega arith)) (omega arith) in
        let same : stimulus_loss (suc (s - 1)) ≡ stimulus_loss s = ap stimulus_loss back in
        let others = singles_nonneg in
        omega (arith, ints)

    -- a loss that fills the room is not had
    too_great : (z loss : ℤ) → fills_room P p v goal z ≡ true → z ≤ℤ loss → (loss +ℤ pos 1) ≤ℤ room P p v goal → ⊥
    too_great z loss e below small = omega (arith, ints)

    within : (i : ℕ) → is_free P p i ≡ true → i < n
    within i free = ltb-true _ _ (and_parts (nat_lt i n) _ free).0

    -- the stimulus of an item of an open one
    some_stimulus : (i : ℕ) → open_of i ≡ true → (stimulus P.bank i == 0) ≡ false
    some_stimulus i opened =
        elim (either (stimulus P.bank i == 0)) [
          | inl none ↦ absurd (true≢false (sym opened ∙ none_open (stimulus P.bank i) (eqb-true _ _ none)))
          | inr some ↦ some
        ]

    first_of : (i : ℕ) → open_of i ≡ true → 0 < stimulus P.bank i
    first_of i opened = omega (arith, eqb-false (stimulus P.bank i) 0 (some_stimulus i opened))

    last_of : (i : ℕ) → i < n → stimulus P.bank i ≤ top
    last_of i w = at_most_greatest n (stimulus P.bank) i w

    -- what X loses at a single item, and at least at a free item of an open stimulus
    single_is : (i : ℕ) → is_free P p i ≡ true → open_of i ≡ false → single_loss i ≡ above_zero (margin P v i) -ℤ cond (X i) (margin P v i) (pos 0)
    unfolding single_loss single_part
    single_is i free closed = here (is_free P p i) (open_of i) (X i) free closed
      where
        here : (f o x : Bool) → f ≡ true → o ≡ false
            → cond (f && not o) (above_zero (margin P v i)) (pos 0) -ℤ cond (f && not o) (cond x (margin P v i) (pos 0)) (pos 0)
            ≡ above_zero (margin P v i) -ℤ cond x (margin P v i) (pos 0)
        here true false x a b = refl
        here true true x a b = absurd (true≢false b)
        here false o x a b = absurd (true≢false (sym a))

    item_is_of : (i : ℕ) → is_free P p i ≡ true → (opened : open_of i ≡ true) → item_loss (stimulus P.bank i) opened i ≡ above_zero (margin P v i) -ℤ cond (X i) (margin P v i) (pos 0)
    item_is_of i free opened = loss_of (stimulus P.bank i) opened i refl ∙ here (is_free P p i) (X i) free
      where
        here : (f x : Bool) → f ≡ true
            → cond f (above_zero (margin P v i)) (pos 0) -ℤ cond (x && f) (margin P v i) (pos 0) ≡ above_zero (margin P v i) -ℤ cond x (margin P v i) (pos 0)
        here true true a = refl
        here true false a = refl
        here false x a = absurd (true≢false (sym a))

    -- what X loses at the stimulus that it uses, with one of its items
    with_item_of : (i : ℕ) → is_free P p i ≡ true → (opened : open_of i ≡ true) → used P.bank X (stimulus P.bank i) ≡ true
        → (above_zero (neg_ℤ (stimulus_margin P p v (stimulus P.bank i))) +ℤ (above_zero (margin P v i) -ℤ cond (X i) (margin P v i) (pos 0))) ≤ℤ stimulus_loss (stimulus P.bank i)
    with_item_of i free opened uses =
        let e = used_loss (stimulus P.bank i) opened uses in
        let one = term_le n (item_loss (stimulus P.bank i) opened) i (item_nonneg (stimulus P.bank i) opened) (within i free) in
        let item = item_is_of i free opened in
        omega (arith, ints)

    loss_single : (i : ℕ) → open_of i ≡ false → loss_with P p v goal i ≡ above_zero (neg_ℤ (margin P v i))
    unfolding loss_with
    loss_single i closed = rw closed (omega (arith, ints))

    loss_linked : (i : ℕ) → open_of i ≡ true → loss_with P p v goal i ≡ above_zero (neg_ℤ (margin P v i)) +ℤ above_zero (neg_ℤ (stimulus_margin P p v (stimulus P.bank i)))
    unfolding loss_with
    loss_linked i opened = rw opened refl

    -- an item that is too dear is not in X
    dear_not_held : (i : ℕ) → is_too_dear P p v goal i ≡ true → X i ≡ false
    dear_not_held i e =
        let parts = and_parts (is_free P p i) _ e in
        elim (either (X i)) [
          | inr not_held ↦ not_held
          | inl held ↦
              elim (either (open_of i)) [
                | inl opened ↦
                    let uses = own_stimulus_used P X under.form.meets i held (some_stimulus i opened) in
                    let loss = with_item_of i parts.0 opened uses in
                    let is = loss_linked i opened in
                    let margin_is : cond (X i) (margin P v i) (pos 0) ≡ margin P v i = ap (λ (x : Bool). cond x (margin P v i) (pos 0)) held in
                    absurd (too_great (loss_with P p v goal i) (stimulus_loss (stimulus P.bank i)) parts.1 (omega (arith, ints, above_is (margin P v i))) (stimulus_small (stimulus P.bank i) (first_of i opened) (last_of i (within i parts.0))))
                | inr closed ↦
                    let loss = single_is i parts.0 closed in
                    let is = loss_single i closed in
                    let margin_is : cond (X i) (margin P v i) (pos 0) ≡ margin P v i = ap (λ (x : Bool). cond x (margin P v i) (pos 0)) held in
                    absurd (too_great (loss_with P p v goal i) (single_loss i) parts.1 (omega (arith, ints, above_is (margin P v i))) (single_small i (within i parts.0)))
              ]
        ]

    -- ---- a stimulus with too few items left is not used
    count_step : (x t f d : Bool) → (x ≡ true → t ≡ true → (f ≡ true) × (d ≡ false)) → ◌≤◌ (cond x (cond t 1 0) 0) (cond (f && t) (cond (not d) 1 0) 0)
    count_step true true true false h = omega arith
    count_step true true true true h = absurd (true≢false (h refl refl).1)
    count_step true true false d h = absurd (true≢false (sym (h refl refl).0))
    count_step true false f d h = omega arith
    count_step false t f d h = omega arith

    count_le : (m s : ℕ) → m ≤ n → ((i : ℕ) → i < n → X i ≡ true → (stimulus P.bank i == s) ≡ true → (is_free P p i ≡ true) × (is_too_dear P p v goal i ≡ false))
        → count_in m X (λ i. stimulus P.bank i == s) ≤ count_in m (is_free_of P p s) (λ i. not (is_too_dear P p v goal i))
    count_le zero s w h = omega arith
    count_le (suc m) s w h =
        let rest = count_le m s (omega arith) h in
        let last = count_step (X m) (stimulus P.bank m == s) (is_free P p m) (is_too_dear P p v goal m) (h m (omega arith)) in
        omega arith

    taken_chooses : (i s : ℕ) → 0 < s → i < n → p.taken i ≡ true → (stimulus P.bank i == s) ≡ true → is_chosen P p s ≡ true
    taken_chooses i s first w taken at =
        or_right (p.branched_on s) _ (and_from _ _ (lt-ltb 0 s first) (any_intro n (λ j. p.taken j && stimulus P.bank j == s) i w (and_from _ _ taken at)))

    not_dear : (i : ℕ) → X i ≡ true → is_too_dear P p v goal i ≡ false
    not_dear i held = elim (either (is_too_dear P p v goal i)) [ inl dear ↦ absurd (true≢false (sym held ∙ dear_not_held i dear)) | inr cheap ↦ cheap ]

    few_unused : (s : ℕ) → 0 < s → s ≤ top → has_too_few P p v goal s ≡ true → used P.bank X s ≡ false
    few_unused s first last e =
        let parts = and_parts (is_open P p s) _ e in
        let not_chosen = not-true _ (and_parts (not (is_chosen P p s)) _ parts.0).0 in
        let few : count_in n (is_free_of P p s) (λ i. not (is_too_dear P p v goal i)) < (bound_at P.plan s).low = ltb-true _ _ parts.1 in
        elim (either (used P.bank X s)) [
          | inr unused ↦ unused
          | inl uses ↦
              let some = count_some n X (λ i. stimulus P.bank i == s) (and_parts (nat_lt 0 s) _ uses).1 in
              let left = count_le n s (omega arith) (λ i w held at. elim (held_is_taken_or_free P p X under i held) [
                | inl taken ↦ absurd (true≢false (sym (taken_chooses i s first w taken at) ∙ not_chosen))
                | inr free ↦ (free, not_dear i held)
              ]) in
              elim ((under.form.meets.stimuli s first last).low) [ inl none ↦ absurd (omega arith) | inr low ↦ absurd (omega arith) ]
        ]

    open_of_few : (i : ℕ) → has_too_few P p v goal (stimulus P.bank i) ≡ true → open_of i ≡ true
    open_of_few i e = (and_parts (is_open P p (stimulus P.bank i)) _ e).0

    put_out_not_held : (i : ℕ) → is_put_out P p v goal i ≡ true → X i ≡ false
    put_out_not_held i e =
        let parts = and_parts (is_free P p i) _ e in
        elim (or_true (is_too_dear P p v goal i) _ parts.1) [
          | inl dear ↦ dear_not_held i dear
          | inr few ↦
              elim (either (X i)) [
                | inr not_held ↦ not_held
                | inl held ↦
                    let opened = open_of_few i few in
                    let uses = own_stimulus_used P X under.form.meets i held (some_stimulus i opened) in
                    absurd (true≢false (sym uses ∙ few_unused (stimulus P.bank i) (first_of i opened) (last_of i (within i parts.0)) few))
              ]
        ]

    -- ---- what costs too much to lack is in X
    not_open_false : (o q : Bool) → (not o || q) ≡ true → o ≡ true → q ≡ true
    not_open_false true q e f = e
    not_open_false false q e f = absurd (true≢false (sym f))

    taken_in_held : (i : ℕ) → is_taken_in P p v goal i ≡ true → X i ≡ true
    taken_in_held i e =
        let free = and_parts (is_free P p i) _ e in
        let rest = and_parts (not (is_put_out P p v goal i)) _ free.1 in
        let fills = and_parts (fills_room P p v goal (above_zero (margin P v i))) _ rest.1 in
        elim (either (X i)) [
          | inl held ↦ held
          | inr not_held ↦
              let none : cond (X i) (margin P v i) (pos 0) ≡ pos 0 = ap (λ (x : Bool). cond x (margin P v i) (pos 0)) not_held in
              elim (either (open_of i)) [
                | inr closed ↦
                    let loss = single_is i free.0 closed in
                    absurd (too_great (above_zero (margin P v i)) (single_loss i) fills.0 (omega (arith, ints)) (single_small i (within i free.0)))
                | inl opened ↦
                    let small = stimulus_small (stimulus P.bank i) (first_of i opened) (last_of i (within i free.0)) in
                    elim (either (used P.bank X (stimulus P.bank i))) [
                      | inl uses ↦
                          let loss = with_item_of i free.0 opened uses in
                          absurd (too_great (above_zero (margin P v i)) (stimulus_loss (stimulus P.bank i)) fills.0 (omega (arith, ints, above_nonneg (neg_ℤ (stimulus_margin P p v (stimulus P.bank i))))) small)
                      | inr unused ↦
                          let loss = unused_loss (stimulus P.bank i) opened unused in
                          let whole = not_open_false (open_of i) _ fills.1 opened in
                          absurd (too_great (stimulus_margin P p v (stimulus P.bank i)) (stimulus_loss (stimulus P.bank i)) whole
                          (omega (arith, ints, above_is (stimulus_margin P p v (stimulus P.bank i)), above_nonneg (neg_ℤ (stimulus_margin P p v (stimulus P.bank i))))) small)
                    ]
              ]
        ]

    settled_used : (s : ℕ) → 0 < s → s ≤ top → is_settled_on P p v goal s ≡ true → used P.bank X s ≡ true
    settled_used s first last e =
        let opened = and_parts (is_open P p s) _ e in
        let rest = and_parts (not (has_too_few P p v goal s)) _ opened.1 in
        let fills = (and_parts (not (fills_room P p v goal (above_zero (neg_ℤ (stimulus_margin P p v s))))) _ rest.1).1 in
        elim (either (used P.bank X s)) [
          | inl uses ↦ uses
          | inr unused ↦
              let loss = unused_loss s opened.0 unused in
              absurd (too_great (above_zero (stimulus_margin P p v s)) (stimulus_loss s) fills (omega (arith, ints)) (stimulus_small s first last))
        ]

    taken_held : (i : ℕ) → (is_taken_in P p v goal i || p.taken i) ≡ true → X i ≡ true
    taken_held i e = elim (or_true (is_taken_in P p v goal i) (p.taken i) e) [ inl fixed ↦ taken_in_held i fixed | inr taken ↦ under.holds_taken i taken ]

    out_not_held : (i : ℕ) → (is_put_out P p v goal i || p.out i) ≡ true → X i ≡ false
    out_not_held i e = elim (or_true (is_put_out P p v goal i) (p.out i) e) [ inl fixed ↦ put_out_not_held i fixed | inr out ↦ under.holds_no_out i out ]

    branched_used : (s : ℕ) → 0 < s → s ≤ top → (is_settled_on P p v goal s || p.branched_on s) ≡ true → used P.bank X s ≡ true
    branched_used s first last e =
        elim (or_true (is_settled_on P p v goal s) (p.branched_on s) e) [
          | inl fixed ↦ settled_used s first last fixed
          | inr branched ↦ under.uses_chosen s first last (or_left (p.branched_on s) _ branched)
        ]

    chosen_used : (s : ℕ) → 0 < s → s ≤ top → is_chosen P (fixed_path P p v goal) s ≡ true → used P.bank X s ≡ true
    chosen_used s first last e =
        elim (or_true (is_settled_on P p v goal s || p.branched_on s) _ e) [
          | inl branched ↦ branched_used s first last branched
          | inr uses ↦
              let some = and_parts (nat_lt 0 s) _ uses in
              let (i, w, at) = any_elim n (λ i. (is_taken_in P p v goal i || p.taken i) && stimulus P.bank i == s) some.1 in
              let item = and_parts (is_taken_in P p v goal i || p.taken i) _ at in
              and_from _ _ some.0 (any_intro n (λ j. X j && stimulus P.bank j == s) i w (and_from _ _ (taken_held i item.0) item.1))
        ]

    on_the_path : Under P (fixed_path P p v goal) X
    on_the_path = record { form = under.form; holds_taken = taken_held; holds_no_out = out_not_held; uses_chosen = chosen_used }

pub fix_keeps : (P : Problem) (p : Path) (v : Multipliers) (goal : ℕ) (X : Set) → Under P p X → goal < objective P X → Under P (fixed_path P p v goal) X
fix_keeps P p v goal X under better = on_the_path P p v X under goal better
