-- The pool of a series: the items of all its forms together, each in one form. Lagrangian
-- relaxation of the length of each form, beside its rows and stimuli.
use Rattle.std.specs.Prelude.{◌≡◌, ℕ, ◌+◌, ◌*◌, ◌/◌, ◌≤◌, ◌<◌, ◌⊎◌, Bool, true, false, cond, IsTrue, ℤ, pos, ◌+ℤ◌, ◌-ℤ◌, ◌*ℤ◌, ◌≤ℤ◌}
use Rattle.bank_tables.specs.Tables.{size}
use Rattle.bank_tables.specs.Sums.{sum_in, total_z}
use Rattle.form_model.specs.Forms.{size_in, stimuli_of}
use Rattle.certificate_model.specs.Paths.{is_chosen, is_open}
use Rattle.certificate_model.specs.Relaxed.{Multipliers, multiplier}
use Rattle.certificate_model.specs.Weights.{price}
use Rattle.series_model.specs.Series.{SeriesProblem, Forms, weight_of}
use Rattle.series_model.specs.SeriesPaths.{SeriesPath, form_problem, form_path, is_free_in}
use Rattle.series_model.specs.SeriesTrees.{names_pool}
use Rattle.series_model.specs.SeriesBounds.{point_side, counts, points, series_lagrangian, IsSeriesMaximum}

-- the low side of the length of form f; its high side is the next
abbrev pub length_side : ℕ → ℕ
length_side f = 2304 + 2 * f

-- the side that only marks a vector of the pool
abbrev pub pool_mark : ℕ
pool_mark = 2314

-- how many items the forms have together
abbrev pub pool_size : SeriesProblem → Forms → ℕ
pool_size Q X = sum_in Q.forms (λ _. true) (λ f. size_in Q.bank (X f))

-- no item is in two of the forms X, which have together as many items as those of a series. Each
-- has the items taken into it and otherwise only free ones, and each used item is in one. Z are the
-- stimuli chosen in each form, and otherwise only open ones
pub record ArePooled (Q : SeriesProblem) (p : SeriesPath) (X Z : Forms) : Type 0 where
  pub n_items : pool_size Q X ≡ Q.forms * Q.plan.length
  pub apart : (f g i : ℕ) → f < Q.forms → g < Q.forms → IsTrue (X f i) → IsTrue (X g i) → f ≡ g
  pub holds_taken : (f i : ℕ) → f < Q.forms → IsTrue (p.taken f i) → IsTrue (X f i)
  pub else_free : (f i : ℕ) → f < Q.forms → IsTrue (X f i) → IsTrue (p.taken f i) ⊎ IsTrue (is_free_in Q p f i)
  pub holds_used : (i : ℕ) → i < size Q.bank → IsTrue (p.used i) → (f : ℕ) × (f < Q.forms) × IsTrue (X f i)
  pub holds_chosen : (f s : ℕ) → f < Q.forms → 0 < s → s ≤ stimuli_of Q.bank → IsTrue (is_chosen (form_problem Q) (form_path Q p f) s) → IsTrue (Z f s)
  pub else_open : (f s : ℕ) → f < Q.forms → 0 < s → s ≤ stimuli_of Q.bank → IsTrue (Z f s)
      → IsTrue (is_chosen (form_problem Q) (form_path Q p f) s) ⊎ IsTrue (is_open (form_problem Q) (form_path Q p f) s)

-- how many items form f lacks, times the multiplier of its length
abbrev pub length_slack : SeriesProblem → Multipliers → Forms → ℕ → ℤ
length_slack Q v X f = price (multiplier v) (length_side f) *ℤ (pos Q.plan.length -ℤ pos (size_in Q.bank (X f)))

-- the Lagrangian of the pool
abbrev pub pool_lagrangian : SeriesProblem → Multipliers → Bool → Forms → Forms → ℤ
pool_lagrangian Q v ray X Z = series_lagrangian Q v ray X Z +ℤ total_z Q.forms (length_slack Q v X)

-- r is the greatest Lagrangian of pooled forms; there is none where there are no such forms
pub record IsPoolMaximum (Q : SeriesProblem) (p : SeriesPath) (v : Multipliers) (ray : Bool) (r : ℤ) : Type 0 where
  pub reached : (X : Forms) × (Z : Forms) × ArePooled Q p X Z × (pool_lagrangian Q v ray X Z ≡ r)
  pub greatest : (X Z : Forms) → ArePooled Q p X Z → pool_lagrangian Q v ray X Z ≤ℤ r

-- the relaxed maximum by the rule of the pool, or of each form for itself
abbrev pub IsMaximumBy : Bool → SeriesProblem → SeriesPath → Multipliers → Bool → ℤ → Type 0
IsMaximumBy true Q p v ray r = IsPoolMaximum Q p v ray r
IsMaximumBy false Q p v ray r = IsSeriesMaximum Q p v ray r

-- the least weighted information above U at a grid point, since it is a multiple of the weight
abbrev pub least_above : SeriesProblem → ℕ → ℕ → ℕ
least_above Q U g = weight_of Q g * (U / weight_of Q g + 1)

-- those of form f at the points that count, each times its multiplier
abbrev pub least_of_form : SeriesProblem → Multipliers → ℕ → ℕ → ℕ
least_of_form Q v U f = sum_in Q.bank.grid (counts Q) (λ g. multiplier v (point_side f g) * least_above Q U g)

-- the same of all forms
abbrev pub least_of_pool : SeriesProblem → Multipliers → ℕ → ℕ
least_of_pool Q v U = sum_in Q.forms (λ _. true) (least_of_form Q v U)

-- what the relaxed maximum reaches where there is a series with a value above U
abbrev pub goal_of : SeriesProblem → Multipliers → ℕ → ℕ
goal_of Q v U = cond (names_pool v) (least_of_pool Q v U) (points Q v * (U + 1))
