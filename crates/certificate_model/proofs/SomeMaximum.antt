-- There is a relaxed maximum exactly where the length is possible, and it is one number.
use Rattle.std.proofs.Common.{◌≡◌, ℕ, zero, suc, ◌+◌, ◌-◌, ◌≤◌, ◌<◌, ◌⊎◌, inl, inr, Bool, true, false, cond, not, ◌&&◌, ◌||◌, ◌==◌, ℤ, pos, ◌≤ℤ◌, refl, sym, ap, ◌∙◌, subst, arith, nat_lt}
use Rattle.std.specs.Prelude.{int_lt}
use Rattle.std.proofs.lemmas.Int.{ints}
use Rattle.std.proofs.lemmas.Bool.{and_parts, and_from, ltb-true, ltb-false, eqb-true, eq-eqb, ne_eqb, not-true}
use Rattle.std.proofs.Math.Bool.{true≢false}
use Rattle.bank_tables.specs.Items.{Set}
use Rattle.bank_tables.specs.Sums.{count_in}
use Rattle.bank_tables.specs.Tables.{size}
use Rattle.form_model.specs.Forms.{size_in}
use Rattle.certificate_model.specs.Paths.{Path, is_free}
use Rattle.certificate_model.specs.Counting.{taken_or_free, length_impossible}
use Rattle.form_model.specs.Problem.{Problem}
use Rattle.certificate_model.specs.Relaxed.{Multipliers, IsRelaxedMaximum}
use Rattle.certificate_model.specs.ClosedForm.{capped_weight, IsGreatestFill, closed_form}
use Rattle.form_model.proofs.SumLaws.{either, or_true, or_left, or_right, or_false, sum_in-le}
use Rattle.certificate_model.proofs.Greatest.{count_in-split, rest_of}
use Rattle.certificate_model.proofs.ClosedFormLaws.{closed_form_is}

last_or : (i n : ℕ) → i < suc n → (i < n) ⊎ (i ≡ n)
last_or i n w = grind arith

-- ---- the greatest of the members of a set
record IsGreatestOf (p : Set) (f : ℕ → ℤ) (n g : ℕ) : Type 0 where
  within : g < n
  member : p g ≡ true
  greatest : (h : ℕ) → h < n → p h ≡ true → f h ≤ℤ f g

greatest_of : (p : Set) (f : ℕ → ℤ) (n : ℕ) → ((i : ℕ) → i < n → p i ≡ false) ⊎ ((g : ℕ) × IsGreatestOf p f n g)
greatest_of p f zero = inl (λ i w. absurd (omega arith))
greatest_of p f (suc n) = by (greatest_of p f n) (either (p n))
  where
    alone : ((i : ℕ) → i < n → p i ≡ false) → p n ≡ true → IsGreatestOf p f (suc n) n
    alone none passes =
        record {
          within = omega arith;
          member = passes;
          greatest = λ h w e. elim (last_or h n w) [ inl old ↦ absurd (true≢false (sym e ∙ none h old)) | inr new ↦ subst (λ (k : ℕ). f k ≤ℤ f n) (sym new) (omega (arith, ints)) ];
        }

    kept : (g : ℕ) → IsGreatestOf p f n g → (p n ≡ true → f n ≤ℤ f g) → IsGreatestOf p f (suc n) g
    kept g best low =
        record {
          within = omega (arith, best.within);
          member = best.member;
          greatest = λ h w e. elim (last_or h n w) [ inl old ↦ best.greatest h old e | inr new ↦ subst (λ (k : ℕ). f k ≤ℤ f g) (sym new) (low (sym (ap p new) ∙ e)) ];
        }

    over : (g : ℕ) → IsGreatestOf p f n g → p n ≡ true → f g ≤ℤ f n → IsGreatestOf p f (suc n) n
    over g best passes high =
        record {
          within = omega arith;
          member = passes;
          greatest = λ h w e. elim (last_or h n w) [ inl old ↦ (let low = best.greatest h old e in omega (arith, ints)) | inr new ↦ subst (λ (k : ℕ). f k ≤ℤ f n) (sym new) (omega (arith, ints)) ];
        }

    by : (((i : ℕ) → i < n → p i ≡ false) ⊎ ((g : ℕ) × IsGreatestOf p f n g)) → (p n ≡ true) ⊎ (p n ≡ false) → ((i : ℕ) → i < suc n → p i ≡ false) ⊎ ((g : ℕ) × IsGreatestOf p f (suc n) g)
    by (inl none) (inr fails) = inl (λ i w. elim (last_or i n w) [ inl old ↦ none i old | inr new ↦ ap p new ∙ fails ])
    by (inl none) (inl passes) = inr (n, alone none passes)
    by (inr (g, best)) (inr fails) = inr (g, kept g best (λ e. absurd (true≢false (sym e ∙ fails))))
    by (inr (g, best)) (inl passes) =
        elim (either (int_lt (f g) (f n))) [
          | inl more ↦ inr (n, over g best passes (omega (arith, ints)))
          | inr no_more ↦ inr (g, kept g best (λ e. omega (arith, ints)))
        ]

-- ---- the m greatest members
count_none : (n : ℕ) (X : Set) → ((i : ℕ) → i < n → X i ≡ false) → count_in n X (λ _. true) ≡ 0
count_none zero X h = refl
count_none (suc n) X h =
    let rest = count_none n X (λ i w. h i (omega arith)) in
    let last : ◌≡◌ {A = ℕ} (cond (X n) 1 0) 0 = ap (λ (b : Bool). cond b 1 0) (h n (omega arith)) in
    omega arith

count_one : (n g : ℕ) → g < n → count_in n (λ i. i == g) (λ _. true) ≡ 1
count_one zero g w = absurd (omega arith)
count_one (suc n) g w =
    elim (last_or g n w) [
      | inl before ↦
          let rest = count_one n g before in
          let last : ◌≡◌ {A = ℕ} (cond (n == g) 1 0) 0 = ap (λ (b : Bool). cond b 1 0) (ne_eqb n g (λ e. omega arith)) in
          omega arith
      | inr at ↦
          let rest = count_none n (λ i. i == g) (λ i w. ne_eqb i g (λ e. omega arith)) in
          let last : ◌≡◌ {A = ℕ} (cond (n == g) 1 0) 1 = ap (λ (b : Bool). cond b 1 0) (eq-eqb n g (sym at)) in
          omega arith
    ]

record IsTopOf (n : ℕ) (F : Set) (f : ℕ → ℤ) (m : ℕ) (T : Set) (t : ℤ) : Type 0 where
  members : (i : ℕ) → T i ≡ true → F i ≡ true
  number : count_in n T (λ _. true) ≡ m
  above : (i : ℕ) → i < n → T i ≡ true → t ≤ℤ f i
  others : (i : ℕ) → i < n → F i ≡ true → T i ≡ false → f i ≤ℤ t

module _ (n : ℕ) (F : Set) (f : ℕ → ℤ) where
  none_of : (t : ℤ) → ((i : ℕ) → i < n → F i ≡ true → f i ≤ℤ t) → IsTopOf n F f 0 (λ _. false) t
  none_of t high = record { members = λ i e. absurd (true≢false (sym e)); number = count_none n (λ _. false) (λ i w. refl); above = λ i w e. absurd (true≢false (sym e)); others = λ i w e out. high i w e }

  -- one more, the greatest of the rest
  one_more : (m : ℕ) (T : Set) (t : ℤ) → IsTopOf n F f m T t → (g : ℕ) → IsGreatestOf (λ i. F i && not (T i)) f n g → IsTopOf n F f (suc m) (λ i. i == g || T i) (f g)
  one_more m T t top g best =
      let parts = and_parts (F g) (not (T g)) best.member in
      let out = not-true (T g) parts.1 in
      let split = count_in-split n (λ i. i == g || T i) (λ i. i == g) T (λ i w. (refl, apart i out)) in
      let one = count_one n g best.within in
      record {
        members = λ i e. elim (or_true (i == g) (T i) e) [ inl at ↦ ap F (eqb-true i g at) ∙ parts.0 | inr old ↦ top.members i old ];
        number = omega (arith, top.number);
        above = λ i w e. elim (or_true (i == g) (T i) e) [
          | inl at ↦ subst (λ (k : ℕ). f g ≤ℤ f k) (sym (eqb-true i g at)) (omega (arith, ints))
          | inr old ↦ (let low = top.others g best.within parts.0 out in let high = top.above i w old in omega (arith, ints))
        ];
        others = λ i w e h. best.greatest i w (and_from _ _ e (ap not (or_false (i == g) (T i) h).1));
      }
    where
      apart : (i : ℕ) → T g ≡ false → (i == g && T i) ≡ false
      apart i out = elim (either (i == g)) [
        | inl at ↦ rw at (ap T (eqb-true i g at) ∙ out)
        | inr other ↦ rw other refl
      ]

  top_of : (m : ℕ) → m ≤ count_in n F (λ _. true) → (T : Set) × (t : ℤ) × IsTopOf n F f m T t
  top_of zero few =
      elim (greatest_of F f n) [
        | inl none ↦ ((λ _. false), pos 0, none_of (pos 0) (λ i w e. absurd (true≢false (sym e ∙ none i w))))
        | inr some ↦ ((λ _. false), f some.0, none_of (f some.0) some.1.greatest)
      ]
  top_of (suc m) few =
      let (T, t, top) = top_of m (omega arith) in
      elim (greatest_of (λ i. F i && not (T i)) f n) [
        | inl none ↦
            let split = count_in-split n F T (λ i. F i && not (T i)) (λ i w. rest_of (T i) (F i) (top.members i)) in
            let empty = count_none n (λ i. F i && not (T i)) none in
            absurd (omega (arith, top.number))
        | inr some ↦ ((λ i. i == some.0 || T i), f some.0, one_more m T t top some.0 some.1)
      ]

-- ---- the relaxed maximum
module _ (P : Problem) (p : Path) (v : Multipliers) (ray : Bool) where
  disjoint : (a w o : Bool) → (a && (w && (not a && not o))) ≡ false
  disjoint true true o = refl
  disjoint true false o = refl
  disjoint false w o = refl

  held : size_in P.bank (taken_or_free P p) ≡ size_in P.bank p.taken + size_in P.bank (is_free P p)
  held = count_in-split (size P.bank) (taken_or_free P p) p.taken (is_free P p) (λ i w. (refl, disjoint (p.taken i) (nat_lt i (size P.bank)) (p.out i)))

  -- where the length is possible, some free items of the greatest reduced weights fill the test
  pub some_maximum : length_impossible P p ≡ false → (r : ℤ) × IsRelaxedMaximum P p v ray r
  some_maximum possible =
      let tests = or_false (nat_lt P.plan.length (size_in P.bank p.taken)) (nat_lt (size_in P.bank (taken_or_free P p)) P.plan.length) possible in
      let few = ltb-false P.plan.length (size_in P.bank p.taken) tests.0 in
      let many = ltb-false (size_in P.bank (taken_or_free P p)) P.plan.length tests.1 in
      let all = held in
      let (T, t, top) = top_of (size P.bank) (is_free P p) (capped_weight P p v ray) (P.plan.length - size_in P.bank p.taken) (omega arith) in
      let number : size_in P.bank T ≡ P.plan.length - size_in P.bank p.taken = top.number in
      let fill : IsGreatestFill P p v ray T t = record { free = top.members; fills = omega arith; above = top.above; others = top.others } in
      (closed_form P p v ray T, closed_form_is P p v ray T t fill)

  pub maximum_means_possible : (r : ℤ) → IsRelaxedMaximum P p v ray r → length_impossible P p ≡ false
  maximum_means_possible r is =
      let (X, Z, pair, reached) = is.reached in
      let most = sum_in-le (size P.bank) p.taken X (λ _. 1) (λ i w. pair.holds_taken i) in
      let least = sum_in-le (size P.bank) X (taken_or_free P p) (λ _. 1) (λ i w e. elim (pair.else_free i e) [ inl taken ↦ or_left _ _ taken | inr free ↦ or_right _ _ free ]) in
      let n_items = pair.n_items in
      elim (either (length_impossible P p)) [
        | inl impossible ↦
            elim (or_true (nat_lt P.plan.length (size_in P.bank p.taken)) _ impossible) [
              | inl much ↦ absurd (omega (arith, ltb-true P.plan.length (size_in P.bank p.taken) much))
              | inr little ↦ absurd (omega (arith, ltb-true (size_in P.bank (taken_or_free P p)) P.plan.length little))
            ]
        | inr possible ↦ possible
      ]

  pub one_maximum : (r q : ℤ) → IsRelaxedMaximum P p v ray r → IsRelaxedMaximum P p v ray q → r ≡ q
  one_maximum r q is other =
      let (X, Z, pair, reached) = is.reached in
      let (Y, W, match, met) = other.reached in
      let low = other.greatest X Z pair in
      let high = is.greatest Y W match in
      omega (arith, ints)
