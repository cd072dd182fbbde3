-- Leaves that close a path.
use Rattle.std.proofs.Common.{◌≡◌, ℕ, ◌<◌, inl, inr, Bool, true, false, ℤ, int_lt, sym, ap, ◌∙◌, arith}
use Rattle.std.specs.Prelude.{◌↔◌, IsTrue, ◌<ℤ◌}
use Rattle.std.proofs.lemmas.Int.{ints}
use Rattle.std.proofs.Math.Bool.{true≢false}
use Rattle.bank_tables.specs.Sums.{sum_in}
use Rattle.certificate_model.specs.Relaxed.{Multipliers, multiplier}
use Rattle.form_model.proofs.SumLaws.{either}
use Rattle.series_model.specs.Series.{SeriesProblem}
use Rattle.series_model.specs.SeriesPaths.{SeriesPath}
use Rattle.series_model.specs.SeriesTrees.{names_pool}
use Rattle.series_model.specs.SeriesBounds.{points}
use Rattle.series_model.specs.SeriesPools.{least_of_pool, IsPoolMaximum, IsMaximumBy}
use Rattle.series_model.specs.SeriesVerdicts.{MaximumIsBelow}
use Rattle.series_check.specs.Points.{points_at, least_at}
use Rattle.series_check.proofs.MaximumLaws.{one_maximum}

-- ---- two relaxed maxima are one number
pub one_pool_maximum : (Q : SeriesProblem) (p : SeriesPath) (v : Multipliers) (ray : Bool) (r q : ℤ) → IsPoolMaximum Q p v ray r → IsPoolMaximum Q p v ray q → r ≡ q
one_pool_maximum Q p v ray r q a b =
    let (X, Z, fits, value) = a.reached in
    let (Y, W, fits', value') = b.reached in
    let low = b.greatest X Z fits in
    let high = a.greatest Y W fits' in
    omega (arith, ints)

one_by : (pool : Bool) (Q : SeriesProblem) (p : SeriesPath) (v : Multipliers) (ray : Bool) (r q : ℤ) → IsMaximumBy pool Q p v ray r → IsMaximumBy pool Q p v ray q → r ≡ q
one_by true = one_pool_maximum
one_by false = one_maximum

pub below_of : (Q : SeriesProblem) (p : SeriesPath) (v : Multipliers) (ray : Bool) (r top : ℤ) → IsMaximumBy (names_pool v) Q p v ray r → (IsTrue (int_lt r top) ↔ MaximumIsBelow Q p v ray top)
below_of Q p v ray r top is = (
  λ h. record { maximum = r; is_maximum = is; below = omega (arith, ints) },
  λ low. (let same = one_by (names_pool v) Q p v ray r low.maximum is low.is_maximum in let below = low.below in tested r top (omega (arith, ints))),
)
  where
    tested : (r top : ℤ) → r <ℤ top → int_lt r top ≡ true
    tested r top h = elim (either (int_lt r top)) [ inl is ↦ is | inr is_not ↦ absurd (omega (arith, ints)) ]

-- numbers that are the same are in the same order
pub same_order : (a b a' b' : ℤ) → a' ≡ a → b' ≡ b → int_lt a' b' ≡ true → int_lt a b ≡ true
same_order a b a' b' e h less = cc

pub none_below : (Q : SeriesProblem) (p : SeriesPath) (v : Multipliers) (ray : Bool) (top : ℤ) → ((r : ℤ) → IsMaximumBy (names_pool v) Q p v ray r → ⊥) → (IsTrue false ↔ MaximumIsBelow Q p v ray top)
none_below Q p v ray top none = (λ h. absurd (true≢false (sym h)), λ low. absurd (none low.maximum low.is_maximum))

-- ---- the goal of the pool
pub least_are : (Q : SeriesProblem) (v : Multipliers) (M : ℕ → ℕ) (U n : ℕ) → M ≡ multiplier v → n ≡ sum_in Q.forms (λ _. true) (least_at Q M U) → n ≡ least_of_pool Q v U
least_are Q v M U n all e = e ∙ ap (λ (N : ℕ → ℕ). sum_in Q.forms (λ _. true) (least_at Q N U)) all

pub points_are : (Q : SeriesProblem) (v : Multipliers) (M : ℕ → ℕ) (n : ℕ) → M ≡ multiplier v → n ≡ sum_in Q.forms (λ _. true) (points_at Q M) → n ≡ points Q v
points_are Q v M n all e = e ∙ ap (λ (N : ℕ → ℕ). sum_in Q.forms (λ _. true) (points_at Q N)) all
