-- The relaxed maximum as the code finds it, from the multipliers M of all sides and the multipliers
-- N of one form's rows.
use Rattle.std.specs.Prelude.{◌≡◌, ℕ, suc, Bool, true, cond, List, slice_index, ℤ, pos, ◌+ℤ◌, ◌-ℤ◌, ◌≤ℤ◌, Option, Some, None}
use Rattle.bank_tables.specs.Items.{Set}
use Rattle.bank_tables.specs.Sums.{sum_in, sum_in_z}
use Rattle.bank_tables.specs.Tables.{size}
use Rattle.form_model.specs.Forms.{stimuli_of}
use Rattle.certificate_model.specs.Paths.{Path}
use Rattle.form_model.specs.Problem.{Problem}
use Rattle.certificate_model.specs.Relaxed.{Multipliers, multiplier, IsRelaxedPair}
use Rattle.certificate_model.specs.Weights.{item_weight, stimulus_weight, rows_constant}
use Rattle.series_model.specs.Series.{SeriesProblem}
use Rattle.series_model.specs.SeriesBounds.{use_side, counts, form_lagrangian}
use Rattle.series_model.specs.SeriesPools.{IsMaximumBy}
use Rattle.series_model.specs.SeriesPaths.{SeriesPath, form_problem, form_path}
use Rattle.series_check.specs.Points.{point_term}

-- no relaxed maximum of a form is further from 0
abbrev pub maximum_top : ℕ
maximum_top = 400000000000000000000000

-- the array has the multiplier of each side
abbrev pub IsSides : Multipliers → List ℕ → Type 0
IsSides v sides = (side : ℕ) → slice_index sides side ≡ multiplier v side

-- what the points add to an item
abbrev pub information_at : SeriesProblem → (ℕ → ℕ) → Bool → ℕ → ℕ → ℕ
information_at Q M ray f i = cond ray 0 (sum_in Q.bank.grid (counts Q) (point_term Q M f i))

-- what an item weighs in a form: that, less the multiplier of its common use, and what the rows add
abbrev pub weight_at : SeriesProblem → (ℕ → ℕ) → (ℕ → ℕ) → Bool → ℕ → ℕ → ℤ
weight_at Q M N ray f i = (pos (information_at Q M ray f i) -ℤ pos (M (use_side i))) +ℤ item_weight (form_problem Q) N true i

-- the reduced Lagrangian of a form whose items weigh w: linear in items and stimuli
abbrev pub linear : Problem → (ℕ → ℕ) → (ℕ → ℤ) → Set → Set → ℤ
linear P N w X Z = rows_constant P N +ℤ (sum_in_z (size P.bank) X w +ℤ sum_in_z (stimuli_of P.bank) (λ k. Z (suc k)) (λ k. stimulus_weight P N (suc k)))

-- r is the greatest of it over relaxed pairs
pub record IsValueOf (P : Problem) (p : Path) (N : ℕ → ℕ) (w : ℕ → ℤ) (r : ℤ) : Type 0 where
  pub reached : (X : Set) × (Z : Set) × IsRelaxedPair P p X Z × (linear P N w X Z ≡ r)
  pub greatest : (X Z : Set) → IsRelaxedPair P p X Z → linear P N w X Z ≤ℤ r

-- r is the relaxed maximum of form f
pub record IsFormMaximum (Q : SeriesProblem) (p : SeriesPath) (v : Multipliers) (ray : Bool) (f : ℕ) (r : ℤ) : Type 0 where
  pub reached : (X : Set) × (Z : Set) × IsRelaxedPair (form_problem Q) (form_path Q p f) X Z × (form_lagrangian Q v ray f X Z ≡ r)
  pub greatest : (X Z : Set) → IsRelaxedPair (form_problem Q) (form_path Q p f) X Z → form_lagrangian Q v ray f X Z ≤ℤ r

-- so it is, or the form has no relaxed pair
abbrev pub IsFormAnswer : SeriesProblem → SeriesPath → Multipliers → Bool → ℕ → Option ℤ → Type 0
IsFormAnswer Q p v ray f (Some r) = IsFormMaximum Q p v ray f r
IsFormAnswer Q p v ray f None = (X Z : Set) → IsRelaxedPair (form_problem Q) (form_path Q p f) X Z → ⊥

-- the number is the relaxed maximum of all forms by the rule of the pool, or of each form for
-- itself, or there is none
abbrev pub IsAnswer : Bool → SeriesProblem → SeriesPath → Multipliers → Bool → Option ℤ → Type 0
IsAnswer pool Q p v ray (Some r) = IsMaximumBy pool Q p v ray r
IsAnswer pool Q p v ray None = (r : ℤ) → IsMaximumBy pool Q p v ray r → ⊥
