-- Each branch decides an item of a form, so a search with enough branches leaves no leaf Open.
use Rattle.std.proofs.Common.{◌≡◌, ℕ, zero, suc, ◌+◌, ◌*◌, ◌^◌, ◌≤◌, ◌<◌, ◌⊎◌, inl, inr, Bool, true, false, cond, not, ◌&&◌, ◌||◌, ◌==◌, refl, sym, ap, ◌∙◌, add-one, arith, nat_lt}
use Rattle.std.proofs.lemmas.Bool.{ltb-true, and_parts, and_from, not-true, eq-eqb}
use Rattle.std.proofs.Math.Bool.{true≢false}
use Rattle.std.proofs.Math.Nat.{pow-suc, suc-mul}
use Rattle.std.proofs.Math.Pow.{pow_mono}
use Rattle.bank_tables.specs.Items.{Set}
use Rattle.bank_tables.specs.Sums.{sum_in}
use Rattle.bank_tables.specs.Tables.{size}
use Rattle.form_model.specs.Forms.{size_in}
use Rattle.form_model.proofs.SumLaws.{either, or_true, or_left, or_right, any_intro, any_elim, sum_in-le, more}
use Rattle.series_model.specs.Series.{SeriesProblem}
use Rattle.series_model.specs.SeriesPaths.{SeriesPath, root, in_another, is_free_in, with_form}
use Rattle.series_model.specs.SeriesVerdicts.{IsWholePath}
use Rattle.series_outcome.specs.Searches.{undecided}

last_or : (i n : ℕ) → i < suc n → (i < n) ⊎ (i ≡ n)
last_or i n w = grind arith

-- ---- a set with one member more
one_more : (n : ℕ) (X Y : Set) (i : ℕ) → ((j : ℕ) → X j ≡ true → Y j ≡ true) → i < n → X i ≡ false → Y i ≡ true → sum_in n X (λ _. 1) + 1 ≤ sum_in n Y (λ _. 1)
one_more zero X Y i h w x y = absurd (omega arith)
one_more (suc n) X Y i h w x y =
    elim (last_or i n w) [
      | inl before ↦
          let rest = one_more n X Y i h before x y in
          let last : ◌≤◌ (cond (X n) 1 0) (cond (Y n) 1 0) = more (X n) (Y n) 1 (h n) in
          omega arith
      | inr at ↦
          let rest = sum_in-le n X Y (λ _. 1) (λ j w. h j) in
          let out : ◌≡◌ {A = ℕ} (cond (X n) 1 0) 0 = ap (λ (b : Bool). cond b 1 0) (ap X (sym at) ∙ x) in
          let in_it : ◌≡◌ {A = ℕ} (cond (Y n) 1 0) 1 = ap (λ (b : Bool). cond b 1 0) (ap Y (sym at) ∙ y) in
          omega arith
    ]

-- no more members than numbers
few_members : (n : ℕ) (X : Set) → sum_in n X (λ _. 1) ≤ n
few_members zero X = omega arith
few_members (suc n) X =
    let rest = few_members n X in
    let last : ◌≤◌ (cond (X n) 1 0) 1 = more (X n) true 1 (λ e. refl) in
    omega arith

-- ---- sums of the forms
sum_le : (n : ℕ) (F G : ℕ → ℕ) → ((g : ℕ) → g < n → F g ≤ G g) → sum_in n (λ _. true) F ≤ sum_in n (λ _. true) G
sum_le zero F G h = omega arith
sum_le (suc n) F G h = let rest = sum_le n F G (λ g w. h g (omega arith)) in let last = h n (omega arith) in omega arith

sum_less : (n : ℕ) (F G : ℕ → ℕ) (f : ℕ) → ((g : ℕ) → g < n → F g ≤ G g) → f < n → F f + 1 ≤ G f → sum_in n (λ _. true) F + 1 ≤ sum_in n (λ _. true) G
sum_less zero F G f h w less = absurd (omega arith)
sum_less (suc n) F G f h w less =
    elim (last_or f n w) [
      | inl before ↦ (let rest = sum_less n F G f (λ g w. h g (omega arith)) before less in let last = h n (omega arith) in omega arith)
      | inr at ↦
          let rest = sum_le n F G (λ g w. h g (omega arith)) in
          let here : F n + 1 ≤ G n = rw (sym at) less in
          omega arith
    ]

sum_most : (n m : ℕ) (F : ℕ → ℕ) → ((g : ℕ) → F g ≤ m) → sum_in n (λ _. true) F ≤ n * m
sum_most zero m F h = omega arith
sum_most (suc n) m F h = let rest = sum_most n m F h in let last = h n in omega (arith, suc-mul n m)

none_of : (n : ℕ) (F : ℕ → ℕ) (f : ℕ) → f < n → sum_in n (λ _. true) F ≡ 0 → F f ≡ 0
none_of zero F f w e = absurd (omega arith)
none_of (suc n) F f w e =
    elim (last_or f n w) [
      | inl before ↦ none_of n F f before (omega arith)
      | inr at ↦ (let here : F n ≡ 0 = omega arith in ap F at ∙ here)
    ]

no_member : (n : ℕ) (X : Set) (i : ℕ) → i < n → sum_in n X (λ _. 1) ≡ 0 → X i ≡ false
no_member n X i w e =
    elim (either (X i)) [
      | inl has ↦ absurd (let most = one_more n (λ _. false) X i (λ j h. absurd (true≢false (sym h))) w refl has in omega arith)
      | inr not ↦ not
    ]

-- ---- on a longer path less is free
not_back : (a b : Bool) → (a ≡ true → b ≡ true) → not b ≡ true → not a ≡ true
not_back true b h e = absurd (true≢false (sym (h refl) ∙ not-true b e))
not_back false b h e = refl

-- q goes on from p
record GoesFurther (p q : SeriesPath) : Type 0 where
  taken : (f i : ℕ) → p.taken f i ≡ true → q.taken f i ≡ true
  out : (f i : ℕ) → p.out f i ≡ true → q.out f i ≡ true

module _ (Q : SeriesProblem) (p q : SeriesPath) (on : GoesFurther p q) where
  more_others : (f i : ℕ) → in_another Q p f i ≡ true → in_another Q q f i ≡ true
  more_others f i e =
      let (g, w, at) = any_elim Q.forms (λ g. not (g == f) && p.taken g i) e in
      let parts = and_parts (not (g == f)) (p.taken g i) at in
      any_intro Q.forms (λ g. not (g == f) && q.taken g i) g w (and_from _ _ parts.0 (on.taken g i parts.1))

  more_out : (f i : ℕ) → (p.out f i || in_another Q p f i) ≡ true → (q.out f i || in_another Q q f i) ≡ true
  more_out f i e = elim (or_true (p.out f i) (in_another Q p f i) e) [ inl out ↦ or_left _ _ (on.out f i out) | inr other ↦ or_right (q.out f i) _ (more_others f i other) ]

  less_free : (f i : ℕ) → is_free_in Q q f i ≡ true → is_free_in Q p f i ≡ true
  less_free f i e =
      let parts = and_parts (nat_lt i (size Q.bank)) _ e in
      let rest = and_parts (not (q.taken f i)) _ parts.1 in
      and_from _ _ parts.0 (and_from _ _ (not_back (p.taken f i) (q.taken f i) (on.taken f i) rest.0) (not_back (p.out f i || in_another Q p f i) (q.out f i || in_another Q q f i) (more_out f i) rest.1))

  item_decided : (f i : ℕ) → f < Q.forms → is_free_in Q p f i ≡ true → is_free_in Q q f i ≡ false → undecided Q q + 1 ≤ undecided Q p
  item_decided f i w free not_free =
      sum_less Q.forms (λ g. size_in Q.bank (is_free_in Q q g)) (λ g. size_in Q.bank (is_free_in Q p g)) f
      (λ g v. sum_in-le (size Q.bank) (is_free_in Q q g) (is_free_in Q p g) (λ _. 1) (λ j u. less_free g j))
      w
      (one_more (size Q.bank) (is_free_in Q q f) (is_free_in Q p f) i (less_free f) (ltb-true _ _ (and_parts (nat_lt i (size Q.bank)) _ free).0) not_free free)

-- ---- the sides of a branch
self : (i : ℕ) → (i == i) ≡ true
self i = eq-eqb i i refl

taken_is_not_free : (n t o : Bool) → t ≡ true → (n && (not t && not o)) ≡ false
taken_is_not_free true true o e = refl
taken_is_not_free false true o e = refl
taken_is_not_free n false o e = absurd (true≢false (sym e))

out_is_not_free : (n t o : Bool) → o ≡ true → (n && (not t && not o)) ≡ false
out_is_not_free true true true e = refl
out_is_not_free true false true e = refl
out_is_not_free false t true e = refl
out_is_not_free n t false e = absurd (true≢false (sym e))

module _ (Q : SeriesProblem) (p : SeriesPath) (f i : ℕ) (w : f < Q.forms) (free : is_free_in Q p f i ≡ true) where
  here : (f == f && i == i) ≡ true
  here = and_from _ _ (self f) (self i)

  pub left_decides : undecided Q (with_form p f i true) + 1 ≤ undecided Q p
  left_decides =
      let q = with_form p f i true in
      item_decided Q p q (record { taken = λ g j e. or_right (g == f && j == i) _ e; out = λ g j e. e }) f i w free
      (taken_is_not_free (nat_lt i (size Q.bank)) (q.taken f i) (q.out f i || in_another Q q f i) (or_left _ (p.taken f i) here))

  pub right_decides : undecided Q (with_form p f i false) + 1 ≤ undecided Q p
  right_decides =
      let q = with_form p f i false in
      item_decided Q p q (record { taken = λ g j e. e; out = λ g j e. or_right (g == f && j == i) _ e }) f i w free
      (out_is_not_free (nat_lt i (size Q.bank)) (q.taken f i) (q.out f i || in_another Q q f i) (or_left _ (in_another Q q f i) (or_left _ (p.out f i) here)))

-- ---- where nothing is undecided, no item is free
pub none_undecided : (Q : SeriesProblem) (p : SeriesPath) → undecided Q p ≡ 0 → IsWholePath Q p
none_undecided Q p e f i w =
    elim (either (is_free_in Q p f i)) [
      | inl free ↦
          let within = ltb-true i (size Q.bank) (and_parts (nat_lt i (size Q.bank)) _ free).0 in
          no_member (size Q.bank) (is_free_in Q p f) i within (none_of Q.forms (λ g. size_in Q.bank (is_free_in Q p g)) f w e)
      | inr not ↦ not
    ]

pub root_undecided : (Q : SeriesProblem) → undecided Q root ≤ Q.forms * size Q.bank
root_undecided Q = sum_most Q.forms (size Q.bank) (λ g. size_in Q.bank (is_free_in Q root g)) (λ g. few_members (size Q.bank) (is_free_in Q root g))

-- ---- powers of 2
double : (u : ℕ) → 2 ^ (u + 1) ≡ 2 ^ u + 2 ^ u
double u = rw add-one (omega (arith, pow-suc 2 u))

pub half : (l u : ℕ) → l + 1 ≤ u → 2 ^ l + 2 ^ l ≤ 2 ^ u
half l u less = omega (arith, pow_mono less, double l)

pub one_at_least : (u : ℕ) → 1 ≤ 2 ^ u
one_at_least u = let e : 2 ^ 0 ≤ 2 ^ u = pow_mono {i = 0} (omega arith) in e

pub at_most_one : (u : ℕ) → 2 ^ u ≤ 1 → u ≡ 0
at_most_one zero low = refl
at_most_one (suc u) low = absurd (let e : 2 ^ 1 ≤ 2 ^ (suc u) = pow_mono {i = 1} (omega arith) in omega arith)

pub enough : (choices u k budget : ℕ) → u ≤ choices → 2 ^ (choices + 1) ≤ budget + 1 → budget + 1 ≡ 2 * (k + 1) → 2 ^ u ≤ k + 1
enough choices u k budget few large is = omega (arith, pow_mono few, double choices)

pub few_choices : (choices budget : ℕ) → 2 ^ (choices + 1) ≤ budget + 1 → budget ≤ 4095 → choices < 12
few_choices choices budget large high =
    elim (below choices) [
      | inl few ↦ few
      | inr many ↦ absurd (let e : 2 ^ 13 ≤ 2 ^ (choices + 1) = pow_mono {i = 13} (omega arith) in omega arith)
    ]
  where
    below : (n : ℕ) → (n < 12) ⊎ (12 ≤ n)
    below n = grind arith

pub few_items : (k n budget : ℕ) → 0 < k → 2 ^ (k * n + 1) ≤ budget + 1 → budget ≤ 4095 → n < 12
few_items zero n budget some large high = absurd (omega arith)
few_items (suc k) n budget some large high = let few = few_choices (suc k * n) budget large high in omega (arith, suc-mul k n)
