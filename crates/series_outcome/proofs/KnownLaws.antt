-- Values of series, and what is settled by one.
use Rattle.std.proofs.Common.{◌≡◌, ℕ, ◌≤◌, arith, Option, Some, None}
use Rattle.series_model.specs.Series.{SeriesProblem, Forms, IsSeries, IsValue}
use Rattle.series_model.specs.SeriesVerdicts.{IsSettled}
use Rattle.series_model.proofs.SeriesTreeLaws.{one_value}
use Rattle.series_outcome.specs.declared.outcome.SeriesOutcome.{SeriesOutcome}
use Rattle.series_outcome.specs.declared.outcome.SeriesOutcome.TheVariants.{Found, NoSeries, NoneFound}
use Rattle.series_outcome.specs.Assemblies.{IsNoWorse}
use Rattle.series_outcome.specs.Searches.{IsAsGood}

pub as_good-refl : (B : Option ℕ) → IsAsGood B B
as_good-refl None = tt
as_good-refl (Some b) = omega arith

pub as_good-trans : (A B C : Option ℕ) → IsAsGood A B → IsAsGood B C → IsAsGood A C
as_good-trans None B C a b = tt
as_good-trans (Some x) None C a b = absurd a
as_good-trans (Some x) (Some y) None a b = b
as_good-trans (Some x) (Some y) (Some z) a b = omega arith

-- what is settled stays so with a value that is no less
pub settled_more : (Q : SeriesProblem) (S : Forms) (C U : Option ℕ) → IsAsGood C U → IsSettled Q C S → IsSettled Q U S
settled_more Q S None None as_good settled = settled
settled_more Q S None (Some u) as_good settled = λ V series value. absurd (settled series)
settled_more Q S (Some c) None as_good settled = absurd as_good
settled_more Q S (Some c) (Some u) as_good settled = λ V series value. let low = settled V series value in omega arith

-- sets that are no series are settled, and so are those with a value that is known
pub settled_no_series : (Q : SeriesProblem) (S : Forms) (U : Option ℕ) → (IsSeries Q S → ⊥) → IsSettled Q U S
settled_no_series Q S None refuted = refuted
settled_no_series Q S (Some u) refuted = λ V series value. absurd (refuted series)

pub settled_value : (Q : SeriesProblem) (S : Forms) (u v : ℕ) → IsValue Q S v → v ≤ u → IsSettled Q (Some u) S
settled_value Q S u v is low = λ V series value. let same : V ≡ v = one_value Q S V v value is in omega arith

pub settled_by : (Q : SeriesProblem) (S : Forms) (U : Option ℕ) (v : ℕ) → IsValue Q S v → IsAsGood (Some v) U → IsSettled Q U S
settled_by Q S None v is as_good = absurd as_good
settled_by Q S (Some u) v is as_good = settled_value Q S u v is as_good

-- an outcome that is no worse than a value is no worse than a lesser one
pub no_worse-trans : (Q : SeriesProblem) (B C : Option ℕ) (outcome : SeriesOutcome) → IsAsGood B C → IsNoWorse Q C outcome → IsNoWorse Q B outcome
no_worse-trans Q None C outcome a b = tt
no_worse-trans Q (Some x) None outcome a b = absurd a
no_worse-trans Q (Some x) (Some y) (Found forms proved) a (U, is, more) = (U, is, omega arith)
no_worse-trans Q (Some x) (Some y) NoSeries a b = b
no_worse-trans Q (Some x) (Some y) NoneFound a b = b

-- a series whose value is settled has a value that is known to be no less
pub settled_good : (Q : SeriesProblem) (S : Forms) (U : Option ℕ) (V : ℕ) → IsSettled Q U S → IsSeries Q S → IsValue Q S V → IsAsGood (Some V) U
settled_good Q S None V settled series value = settled series
settled_good Q S (Some u) V settled series value = settled V series value
