-- The relaxed maximum of several forms: Lagrangian relaxation of the rows and stimuli of each form,
-- and of the constraint that an item is in one form at most.
use Rattle.std.specs.Prelude.{◌≡◌, ℕ, ◌+◌, ◌-◌, ◌*◌, ◌<◌, Bool, true, ◌&&◌, cond, [], ◌∷◌, nat_lt, nat_le, ℤ, pos, ◌+ℤ◌, ◌-ℤ◌, ◌≤ℤ◌, if◌then◌else◌}
use Rattle.bank_tables.specs.Items.{Set}
use Rattle.bank_tables.specs.Tables.{size, info}
use Rattle.bank_tables.specs.Sums.{sum_in, sum_in_z, total_z}
use Rattle.certificate_model.specs.Relaxed.{Multipliers, multiplier, lagrangian_without_links, IsRelaxedPair}
use Rattle.series_model.specs.Series.{SeriesProblem, Forms, weight_of}
use Rattle.series_model.specs.SeriesPaths.{SeriesPath, form_problem, form_path}

-- the side of form f at grid point g; its multiplier is the share of that form and point in the
-- value
abbrev pub point_side : ℕ → ℕ → ℕ
point_side f g = 64 * f + g

-- the side of the common use of item i: it is in one form at most
abbrev pub use_side : ℕ → ℕ
use_side i = 256 + i

-- the first side of the rows and stimuli of form f
abbrev pub first_side : ℕ → ℕ
first_side f = 768 + 384 * f

-- the multipliers of the rows and stimuli of form f
abbrev pub multipliers_of : ℕ → Multipliers → Multipliers
multipliers_of f [] = []
multipliers_of f (pair ∷ pairs) =
    if nat_le (first_side f) pair.0 && nat_lt pair.0 (first_side f + 384) then (pair.0 - first_side f, pair.1) ∷ multipliers_of f pairs
    else multipliers_of f pairs

-- the points that count
abbrev pub counts : SeriesProblem → Set
counts Q g = nat_lt 0 (weight_of Q g)

-- the sum of the multipliers of form f at the points that count
abbrev pub points_of : SeriesProblem → Multipliers → ℕ → ℕ
points_of Q v f = sum_in Q.bank.grid (counts Q) (λ g. multiplier v (point_side f g))

-- the same of all forms
abbrev pub points : SeriesProblem → Multipliers → ℕ
points Q v = sum_in Q.forms (λ _. true) (points_of Q v)

-- the weighted information of item i at the points, each times its multiplier for form f; 0 for a
-- ray
abbrev pub information_of : SeriesProblem → Multipliers → Bool → ℕ → ℕ → ℕ
information_of Q v ray f i = cond ray 0 (sum_in Q.bank.grid (counts Q) (λ g. multiplier v (point_side f g) * (weight_of Q g * info Q.bank i g)))

-- what item i adds in form f before its rows: that information, less the multiplier of its common
-- use
abbrev pub item_gain : SeriesProblem → Multipliers → Bool → ℕ → ℕ → ℤ
item_gain Q v ray f i = pos (information_of Q v ray f i) -ℤ pos (multiplier v (use_side i))

-- the Lagrangian of form f at items X and stimuli Z: what the items add, and each slack of the
-- form's rows and stimuli times its multiplier
abbrev pub form_lagrangian : SeriesProblem → Multipliers → Bool → ℕ → Set → Set → ℤ
form_lagrangian Q v ray f X Z = sum_in_z (size Q.bank) X (item_gain Q v ray f) +ℤ lagrangian_without_links (form_problem Q) (multipliers_of f v) true X Z

-- the sum of the multipliers of common use
abbrev pub uses : SeriesProblem → Multipliers → ℕ
uses Q v = sum_in (size Q.bank) (λ _. true) (λ i. multiplier v (use_side i))

-- the Lagrangian of all forms
abbrev pub series_lagrangian : SeriesProblem → Multipliers → Bool → Forms → Forms → ℤ
series_lagrangian Q v ray X Z = pos (uses Q v) +ℤ total_z Q.forms (λ f. form_lagrangian Q v ray f (X f) (Z f))

-- each form's items and stimuli are a relaxed pair on the form's path
abbrev pub AreRelaxed : SeriesProblem → SeriesPath → Forms → Forms → Type 0
AreRelaxed Q p X Z = (f : ℕ) → f < Q.forms → IsRelaxedPair (form_problem Q) (form_path Q p f) (X f) (Z f)

-- r is the relaxed maximum: the greatest Lagrangian of relaxed pairs; there is none where there are
-- no such pairs
pub record IsSeriesMaximum (Q : SeriesProblem) (p : SeriesPath) (v : Multipliers) (ray : Bool) (r : ℤ) : Type 0 where
  pub reached : (X : Forms) × (Z : Forms) × AreRelaxed Q p X Z × (series_lagrangian Q v ray X Z ≡ r)
  pub greatest : (X Z : Forms) → AreRelaxed Q p X Z → series_lagrangian Q v ray X Z ≤ℤ r
