-- What the definitions imply, as the public laws state it.
use Rattle.std.specs.Prelude.{◌≡◌, ℕ, ◌*◌, ◌<◌, ◌||◌, List, ℤ, pos, ◌≤ℤ◌, true, false, IsTrue, Option, Some, None}
use Rattle.certificate_model.specs.Counting.{is_impossible}
use Rattle.certificate_model.specs.Relaxed.{Multipliers}
use Rattle.series_model.specs.declared.verdict.SeriesVerdict.TheVariants.{Optimal, NoSeries}
use Rattle.form_model.specs.Forms.{Best, objective}
use Rattle.form_model.specs.Problem.{whole}
use Rattle.series_model.specs.Series.{SeriesProblem, Forms, weight_of, IsValue, NoneAbove, BestSeries, HasNoSeries, forms_of}
use Rattle.series_model.specs.SeriesTrees.{Certificate}
use Rattle.series_model.specs.SeriesPaths.{SeriesPath, form_problem, form_path, is_use_lost, are_uses_many, OnPath}
use Rattle.series_model.specs.SeriesBounds.{points, IsSeriesMaximum}
use Rattle.series_model.specs.SeriesPools.{least_of_pool, IsPoolMaximum}
use Rattle.series_model.specs.SeriesVerdicts.{IsSeriesVerdict}

-- the value of a series on a path, times the multipliers of the points, is at most the relaxed
-- maximum there
abbrev pub SeriesDuality : Type 0
SeriesDuality = (Q : SeriesProblem) (p : SeriesPath) (v : Multipliers) (r : ℤ) (S : Forms) (V : ℕ) → IsSeriesMaximum Q p v false r → OnPath Q p S → IsValue Q S V → pos (points Q v * V) ≤ℤ r

-- a ray's relaxed maximum is not negative where a series is on the path
abbrev pub SeriesRay : Type 0
SeriesRay = (Q : SeriesProblem) (p : SeriesPath) (v : Multipliers) (r : ℤ) (S : Forms) → IsSeriesMaximum Q p v true r → OnPath Q p S → pos 0 ≤ℤ r

-- a series on a path with a value above U has at least the goal of U, so by the rule of the pool
-- the relaxed maximum reaches it
abbrev pub PoolDuality : Type 0
PoolDuality = (Q : SeriesProblem) (p : SeriesPath) (v : Multipliers) (r : ℤ) (S : Forms) (U V : ℕ) → IsPoolMaximum Q p v false r → OnPath Q p S → IsValue Q S V → U < V → pos (least_of_pool Q v U) ≤ℤ r

-- and a ray's relaxed maximum is not negative where a series is on the path
abbrev pub PoolRay : Type 0
PoolRay = (Q : SeriesProblem) (p : SeriesPath) (v : Multipliers) (r : ℤ) (S : Forms) → IsPoolMaximum Q p v true r → OnPath Q p S → pos 0 ≤ℤ r

-- a row of a form that is impossible by counting leaves no series on the path
abbrev pub SeriesCounting : Type 0
SeriesCounting = (Q : SeriesProblem) (p : SeriesPath) (S : Forms) (f r : ℕ) → f < Q.forms → IsTrue (is_impossible (form_problem Q) (form_path Q p f) r) → OnPath Q p S → ⊥

-- a used item that no form can have, or more items in forms and used than the forms have, leaves no
-- series on the path
abbrev pub SeriesUses : Type 0
SeriesUses = (Q : SeriesProblem) (p : SeriesPath) (S : Forms) → IsTrue (is_use_lost Q p || are_uses_many Q p) → OnPath Q p S → ⊥

-- a tree whose verdict is Optimal shows that its series is best
abbrev pub OptimalIsBestSeries : Type 0
OptimalIsBestSeries = (Q : SeriesProblem) (sets : List (List ℕ)) (T : Certificate) → IsSeriesVerdict Q (Some sets) None T Optimal → BestSeries Q (forms_of sets)

-- with a number in place of the value, that no series has a value above it
abbrev pub OptimalIsAtMost : Type 0
OptimalIsAtMost = (Q : SeriesProblem) (sets : List (List ℕ)) (U : ℕ) (T : Certificate) → IsSeriesVerdict Q (Some sets) (Some U) T Optimal → NoneAbove Q U

-- a tree whose verdict is NoSeries shows that there is no series
abbrev pub NoSeriesIsNone : Type 0
NoSeriesIsNone = (Q : SeriesProblem) (at_most : Option ℕ) (T : Certificate) → IsSeriesVerdict Q None at_most T NoSeries → HasNoSeries Q

-- with one form, and one point g of weight 1 alone, the best series is a best form of the whole
-- problem with g as the estimate, and its value is that form's objective
abbrev pub OneFormIsBest : Type 0
OneFormIsBest = (Q : SeriesProblem) (S : Forms) (V g : ℕ) → Q.forms ≡ 1 → weight_of Q g ≡ 1 → ((h : ℕ) → (h ≡ g → ⊥) → weight_of Q h ≡ 0)
    → BestSeries Q S → IsValue Q S V → Best (whole Q.bank Q.plan g) (S 0) × (V ≡ objective (whole Q.bank Q.plan g) (S 0))
