-- The relaxed maximum, one form after the other.
use Rattle.std.proofs.Common.{◌≡◌, ℕ, suc, ◌+◌, ◌<◌, ◌⊎◌, inl, inr, Bool, true, false, ◌==◌, List, ℤ, pos, ◌+ℤ◌, ◌≤ℤ◌, refl, sym, ap, ◌∙◌, subst, arith}
use Rattle.std.proofs.lemmas.Int.{ints}
use Rattle.std.proofs.lemmas.Bool.{eq-eqb, ne_eqb}
use Rattle.bank_tables.specs.Items.{Set}
use Rattle.bank_tables.specs.Sums.{sum_in_z, total_z}
use Rattle.bank_tables.specs.Tables.{size}
use Rattle.form_model.specs.Forms.{stimuli_of, size_in}
use Rattle.certificate_model.specs.Counting.{taken_or_free}
use Rattle.certificate_model.specs.Paths.{Path, is_free}
use Rattle.form_model.specs.Problem.{Problem}
use Rattle.certificate_model.specs.Ranges.{at}
use Rattle.certificate_model.specs.Relaxed.{Multipliers, multiplier, IsRelaxedPair}
use Rattle.certificate_model.specs.Weights.{item_weight, rows_constant}
use Rattle.certificate_model.proofs.Reduced.{total_z-same}
use Rattle.form_model.proofs.SumLaws.{sum_in-le, or_left, or_right}
use Rattle.certificate_check.specs.Tops.{IsTopOf}
use Rattle.certificate_check.proofs.MaximumLaws.{taken_and_free}
use Rattle.certificate_check.proofs.TopLaws.{threshold}
use Rattle.series_model.specs.Series.{SeriesProblem, Forms}
use Rattle.series_model.specs.SeriesBounds.{multipliers_of, item_gain, form_lagrangian, uses, IsSeriesMaximum}
use Rattle.series_model.specs.SeriesPaths.{SeriesPath, form_problem, form_path}
use Rattle.series_check.specs.Gains.{gain_of}
use Rattle.series_check.specs.Maximum.{linear, weight_at, IsValueOf, IsFormMaximum}
use Rattle.series_check.proofs.LinearLaws.{sum_in_z-same, sum_in_z-plus, lagrangian_linear, greatest_linear}

-- ---- one form
-- the closed form by the greatest weights of an array is the greatest value
pub value_of_top : (P : Problem) (p : Path) (N : ℕ → ℕ) (weights : List ℤ) (T : Set) (k : ℕ) (constant taken free stimuli : ℤ)
    → IsTopOf (size P.bank) weights (is_free P p) k T
    → size_in P.bank p.taken + k ≡ P.plan.length
    → constant ≡ rows_constant P N
    → taken ≡ sum_in_z (size P.bank) p.taken (at weights)
    → free ≡ sum_in_z (size P.bank) T (at weights)
    → stimuli ≡ total_z (stimuli_of P.bank) (λ j. gain_of P p N (suc j))
    → IsValueOf P p N (at weights) (constant +ℤ ((taken +ℤ free) +ℤ stimuli))
value_of_top P p N weights T k constant taken free stimuli top fills e f g h =
    let (t, above, others) = threshold (size P.bank) weights (is_free P p) k T top in
    let is = greatest_linear P p N (at weights) T t top.within (ap (λ (n : ℕ). size_in P.bank p.taken + n) top.number ∙ fills) above others in
    subst (IsValueOf P p N (at weights)) (sym (joined e f g h)) is
  where
    joined : {a b c d a' b' c' d' : ℤ} → a ≡ a' → b ≡ b' → c ≡ c' → d ≡ d' → a +ℤ ((b +ℤ c) +ℤ d) ≡ a' +ℤ ((b' +ℤ c') +ℤ d')
    joined e f g h = cc

module _ (Q : SeriesProblem) (p : SeriesPath) (v : Multipliers) (ray : Bool) (f : ℕ) where
  -- the Lagrangian of a form is linear, with these weights
  pub form_linear : (X Z : Set) → form_lagrangian Q v ray f X Z ≡ linear (form_problem Q) (multiplier (multipliers_of f v)) (weight_at Q (multiplier v) (multiplier (multipliers_of f v)) ray f) X Z
  form_linear X Z =
      let rows = lagrangian_linear (form_problem Q) (multipliers_of f v) X Z in
      let both = sum_in_z-plus (size Q.bank) X (item_gain Q v ray f) (item_weight (form_problem Q) (multiplier (multipliers_of f v)) true) in
      omega (arith, ints)

  pub form_maximum_is : (weights : List ℤ) (r : ℤ)
      → ((i : ℕ) → i < size Q.bank → at weights i ≡ weight_at Q (multiplier v) (multiplier (multipliers_of f v)) ray f i)
      → IsValueOf (form_problem Q) (form_path Q p f) (multiplier (multipliers_of f v)) (at weights) r
      → IsFormMaximum Q p v ray f r
  form_maximum_is weights r are value =
      let (X, Z, fits, reached) = value.reached in
      record {
        reached = (X, Z, fits, same X Z ∙ reached);
        greatest = λ X Z fits. subst (λ (z : ℤ). z ≤ℤ r) (sym (same X Z)) (value.greatest X Z fits);
      }
    where
      same : (X Z : Set) → form_lagrangian Q v ray f X Z ≡ linear (form_problem Q) (multiplier (multipliers_of f v)) (at weights) X Z
      same X Z =
          let l = form_linear X Z in
          let items = sum_in_z-same (size Q.bank) X (at weights) (weight_at Q (multiplier v) (multiplier (multipliers_of f v)) ray f) are in
          omega (arith, ints)

-- where the length is impossible there is no relaxed pair
pub no_pair : (P : Problem) (p : Path) → (P.plan.length < size_in P.bank p.taken) ⊎ (size_in P.bank p.taken + size_in P.bank (is_free P p) < P.plan.length) → (X Z : Set) → IsRelaxedPair P p X Z → ⊥
no_pair P p impossible X Z fits =
    let e = fits.n_items in
    elim impossible [
      | inl many ↦ omega (arith, sum_in-le (size P.bank) p.taken X (λ _. 1) (λ i w. fits.holds_taken i))
      | inr few ↦
          omega (arith, taken_and_free P p, sum_in-le (size P.bank) X (taken_or_free P p) (λ _. 1) (λ i w has. elim (fits.else_free i has) [ inl taken ↦ or_left _ _ taken | inr free ↦ or_right (p.taken i) (is_free P p i) free ]))
    ]

-- ---- the forms together
-- sum is the greatest Lagrangian of the forms below k
pub record IsMaximumTo (Q : SeriesProblem) (p : SeriesPath) (v : Multipliers) (ray : Bool) (k : ℕ) (sum : ℤ) : Type 0 where
  pub reached : (X : Forms) × (Z : Forms) × ((f : ℕ) → f < k → IsRelaxedPair (form_problem Q) (form_path Q p f) (X f) (Z f)) × (pos (uses Q v) +ℤ total_z k (λ f. form_lagrangian Q v ray f (X f) (Z f)) ≡ sum)
  pub greatest : (X Z : Forms) → ((f : ℕ) → f < k → IsRelaxedPair (form_problem Q) (form_path Q p f) (X f) (Z f)) → (pos (uses Q v) +ℤ total_z k (λ f. form_lagrangian Q v ray f (X f) (Z f))) ≤ℤ sum

pub no_forms : (Q : SeriesProblem) (p : SeriesPath) (v : Multipliers) (ray : Bool) (sum : ℤ) → sum ≡ pos (uses Q v) → IsMaximumTo Q p v ray 0 sum
no_forms Q p v ray sum e =
    record {
      reached = (λ _ _. false, λ _ _. false, λ f w. absurd (omega arith), omega (arith, ints));
      greatest = λ X Z fits. omega (arith, ints);
    }

-- a list of sets with one more
pub with_set : Forms → ℕ → Set → Forms
with_set S k X f = if_last (f == k)
  where
    if_last : Bool → Set
    if_last true = X
    if_last false = S f

new_set : (S : Forms) (k : ℕ) (X : Set) → with_set S k X k ≡ X
unfolding with_set
new_set S k X = rw (eq-eqb k k refl) refl

old_set : (S : Forms) (k : ℕ) (X : Set) (f : ℕ) → f < k → with_set S k X f ≡ S f
unfolding with_set
old_set S k X f w = rw (ne_eqb f k (omega arith)) refl

last_or : (i n : ℕ) → i < suc n → (i < n) ⊎ (i ≡ n)
last_or i n w = grind arith

pub one_more_form : (Q : SeriesProblem) (p : SeriesPath) (v : Multipliers) (ray : Bool) (k : ℕ) (sum r : ℤ) → IsMaximumTo Q p v ray k sum → IsFormMaximum Q p v ray k r → IsMaximumTo Q p v ray (suc k) (sum +ℤ r)
one_more_form Q p v ray k sum r so_far here =
    let (X, Z, fits, value) = so_far.reached in
    let (x, z, fit, one) = here.reached in
    record {
      reached = (with_set X k x, with_set Z k z, both X Z x z fits fit, total X Z x z value one);
      greatest = λ X Z fits. bound X Z fits;
    }
  where
    L : ℕ → Set → Set → ℤ
    L f = form_lagrangian Q v ray f

    both : (X Z : Forms) (x z : Set) → ((f : ℕ) → f < k → IsRelaxedPair (form_problem Q) (form_path Q p f) (X f) (Z f)) → IsRelaxedPair (form_problem Q) (form_path Q p k) x z → (f : ℕ) → f < suc k → IsRelaxedPair (form_problem Q) (form_path Q p f) (with_set X k x f) (with_set Z k z f)
    both X Z x z fits fit f w =
        elim (last_or f k w) [
          | inl old ↦
              subst (λ (Y : Set). IsRelaxedPair (form_problem Q) (form_path Q p f) Y (with_set Z k z f)) (sym (old_set X k x f old))
              (subst (λ (Y : Set). IsRelaxedPair (form_problem Q) (form_path Q p f) (X f) Y) (sym (old_set Z k z f old)) (fits f old))
          | inr new ↦
              subst (λ (g : ℕ). IsRelaxedPair (form_problem Q) (form_path Q p g) (with_set X k x g) (with_set Z k z g)) (sym new)
              (subst (λ (Y : Set). IsRelaxedPair (form_problem Q) (form_path Q p k) Y (with_set Z k z k)) (sym (new_set X k x))
              (subst (λ (Y : Set). IsRelaxedPair (form_problem Q) (form_path Q p k) x Y) (sym (new_set Z k z)) fit))
        ]

    total : (X Z : Forms) (x z : Set) → pos (uses Q v) +ℤ total_z k (λ f. L f (X f) (Z f)) ≡ sum → L k x z ≡ r → pos (uses Q v) +ℤ total_z (suc k) (λ f. L f (with_set X k x f) (with_set Z k z f)) ≡ sum +ℤ r
    total X Z x z value one =
        let before : total_z k (λ f. L f (with_set X k x f) (with_set Z k z f)) ≡ total_z k (λ f. L f (X f) (Z f)) =
        total_z-same k (λ f. L f (with_set X k x f) (with_set Z k z f)) (λ f. L f (X f) (Z f)) (λ f w. ap (λ (Y : Set). L f Y (with_set Z k z f)) (old_set X k x f w) ∙ ap (λ (Y : Set). L f (X f) Y) (old_set Z k z f w)) in
        let last : L k (with_set X k x k) (with_set Z k z k) ≡ L k x z = ap (λ (Y : Set). L k Y (with_set Z k z k)) (new_set X k x) ∙ ap (λ (Y : Set). L k x Y) (new_set Z k z) in
        omega (arith, ints)

    bound : (X Z : Forms) → ((f : ℕ) → f < suc k → IsRelaxedPair (form_problem Q) (form_path Q p f) (X f) (Z f)) → (pos (uses Q v) +ℤ total_z (suc k) (λ f. L f (X f) (Z f))) ≤ℤ (sum +ℤ r)
    bound X Z fits =
        let first = so_far.greatest X Z (λ f w. fits f (omega arith)) in
        let last = here.greatest (X k) (Z k) (fits k (omega arith)) in
        omega (arith, ints)

pub all_forms : (Q : SeriesProblem) (p : SeriesPath) (v : Multipliers) (ray : Bool) (k : ℕ) (sum : ℤ) → k ≡ Q.forms → IsMaximumTo Q p v ray k sum → IsSeriesMaximum Q p v ray sum
all_forms Q p v ray k sum e so_far =
    let is : IsMaximumTo Q p v ray Q.forms sum = subst (λ (n : ℕ). IsMaximumTo Q p v ray n sum) e so_far in
    record { reached = is.reached; greatest = is.greatest }

-- where one form has no relaxed pair, there is no relaxed maximum
pub none_of_all : (Q : SeriesProblem) (p : SeriesPath) (v : Multipliers) (ray : Bool) (f : ℕ) → f < Q.forms → ((X Z : Set) → IsRelaxedPair (form_problem Q) (form_path Q p f) X Z → ⊥) → (r : ℤ) → IsSeriesMaximum Q p v ray r → ⊥
none_of_all Q p v ray f w none r maximum =
    let (X, Z, fits, value) = maximum.reached in
    none (X f) (Z f) (fits f w)

-- two relaxed maxima are one number
pub one_maximum : (Q : SeriesProblem) (p : SeriesPath) (v : Multipliers) (ray : Bool) (r q : ℤ) → IsSeriesMaximum Q p v ray r → IsSeriesMaximum Q p v ray q → r ≡ q
one_maximum Q p v ray r q a b =
    let (X, Z, fits, value) = a.reached in
    let (Y, W, fits', value') = b.reached in
    let low = b.greatest X Z fits in
    let high = a.greatest Y W fits' in
    omega (arith, ints)
