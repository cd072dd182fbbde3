-- The outcome of an assembly of a form series, and the tree that shows it.
use Rattle.std.specs.Prelude.{◌≡◌, ℕ, ◌≤◌, true, false, List, Option, Some, None}
use Rattle.form_model.specs.Forms.{Best, objective}
use Rattle.form_model.specs.Problem.{whole}
use Rattle.series_model.specs.declared.verdict.SeriesVerdict.TheVariants.{Optimal, Partial}
use Rattle.series_model.specs.declared.verdict.SeriesVerdict.TheVariants as verdict
use Rattle.series_model.specs.Series.{SeriesProblem, forms_of, IsSeriesList, IsValue, BestSeries, HasNoSeries}
use Rattle.series_model.specs.SeriesTrees.{Certificate}
use Rattle.series_model.specs.SeriesVerdicts.{IsSeriesVerdict}
use Rattle.series_outcome.specs.declared.outcome.SeriesOutcome.{SeriesOutcome}
use Rattle.series_outcome.specs.declared.outcome.SeriesOutcome.TheVariants.{Found, NoSeries, NoneFound}
use Rattle.series_outcome.specs.Spending.{IsSpent}

-- the tree decides nothing within the budget, which it spends: its verdict, with a series or none,
-- is Partial
pub record IsUndecided (Q : SeriesProblem) (S : Option (List (List ℕ))) (T : Certificate)
    (budget : ℕ) : Type 0 where
  pub open_leaves : ℕ
  pub verdict : IsSeriesVerdict Q S None T (Partial open_leaves)
  pub spent : IsSpent Q T budget

-- the tree shows the outcome
abbrev pub IsShown : SeriesProblem → Certificate → ℕ → SeriesOutcome → Type 0
IsShown Q T budget (Found forms true) = IsSeriesVerdict Q (Some forms) None T Optimal
IsShown Q T budget (Found forms false) = IsUndecided Q (Some forms) T budget
IsShown Q T budget NoSeries = IsSeriesVerdict Q None None T verdict.NoSeries
IsShown Q T budget NoneFound = IsUndecided Q None T budget

-- what the outcome means: proved, no series has a greater value; without a series, there is none
abbrev pub IsTrueOutcome : SeriesProblem → SeriesOutcome → Type 0
IsTrueOutcome Q (Found forms true) = IsSeriesList Q forms × BestSeries Q (forms_of forms)
IsTrueOutcome Q (Found forms false) = IsSeriesList Q forms
IsTrueOutcome Q NoSeries = HasNoSeries Q
IsTrueOutcome Q NoneFound = Unit {0}

-- the outcome is no worse than a value, where there is one: it is a series of at least that value
abbrev pub IsNoWorse : SeriesProblem → Option ℕ → SeriesOutcome → Type 0
IsNoWorse Q None outcome = Unit {0}
IsNoWorse Q (Some V) (Found forms proved) = (U : ℕ) × IsValue Q (forms_of forms) U × (V ≤ U)
IsNoWorse Q (Some V) outcome = ⊥

-- the outcome is no worse than the sets given, where there are some and they are a series
abbrev pub KeepsSeries : SeriesProblem → Option (List (List ℕ)) → SeriesOutcome → Type 0
KeepsSeries Q None outcome = Unit {0}
KeepsSeries Q (Some sets) outcome = (V : ℕ) → IsSeriesList Q sets → IsValue Q (forms_of sets) V
    → IsNoWorse Q (Some V) outcome

-- the search went to its end
abbrev pub IsDecided : SeriesOutcome → Type 0
IsDecided (Found forms proved) = proved ≡ true
IsDecided NoSeries = Unit {0}
IsDecided NoneFound = ⊥

-- with g as the estimate, a proved series has a best form of the whole problem as its first, and
-- that form's objective as its value
abbrev pub IsBestForm : SeriesProblem → ℕ → SeriesOutcome → Type 0
IsBestForm Q g (Found forms true) = (V : ℕ) → IsValue Q (forms_of forms) V
    → Best (whole Q.bank Q.plan g) (forms_of forms 0)
    × (V ≡ objective (whole Q.bank Q.plan g) (forms_of forms 0))
IsBestForm Q g outcome = Unit {0}
