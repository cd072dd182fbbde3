-- What a verdict shows of an outcome, and what an outcome means.
use Rattle.std.proofs.Common.{◌≡◌, ℕ, zero, suc, ◌<◌, inl, inr, Bool, true, false, not, List, refl, sym, ◌∙◌, subst, arith, Some, None}
use Rattle.std.proofs.Math.Bool.{true≢false}
use Rattle.series_model.specs.declared.verdict.SeriesVerdict.{SeriesVerdict}
use Rattle.series_model.specs.declared.verdict.SeriesVerdict.TheVariants.{Optimal, Partial}
use Rattle.series_model.specs.Series.{SeriesProblem, weight_of, forms_of, IsSeriesList, IsValue}
use Rattle.series_model.specs.SeriesTrees.{Certificate}
use Rattle.series_model.specs.SeriesVerdicts.{verdict_of, IsSeriesVerdict}
use Rattle.series_model.specs.SeriesLaws.{OneFormIsBest}
use Rattle.series_model.proofs.SeriesTreeLaws.{optimal_is_best_series, no_series_is_none}
use Rattle.series_check.specs.Answers.{IsJudged}
use Rattle.series_outcome.specs.declared.outcome.SeriesOutcome.{SeriesOutcome}
use Rattle.series_outcome.specs.declared.outcome.SeriesOutcome.TheVariants.{Found, NoSeries, NoneFound}
use Rattle.series_outcome.specs.Assemblies.{IsShown, IsTrueOutcome, IsBestForm}
use Rattle.series_outcome.specs.Spending.{IsSpent}

-- ---- a verdict that is not Bad is on a series
optimal_list : (Q : SeriesProblem) (sets : List (List ℕ)) (T : Certificate) → IsSeriesVerdict Q (Some sets) None T Optimal → IsSeriesList Q sets
optimal_list Q sets T (inl gives) = gives.0
optimal_list Q sets T (inr bad) = absurd (let e = bad.1 in cc)

partial_list : (Q : SeriesProblem) (sets : List (List ℕ)) (T : Certificate) (k : ℕ) → IsSeriesVerdict Q (Some sets) None T (Partial k) → IsSeriesList Q sets
partial_list Q sets T k (inl gives) = gives.0
partial_list Q sets T k (inr bad) = absurd (let e = bad.1 in cc)

-- ---- what it means
pub shown_is_true : (Q : SeriesProblem) (T : Certificate) (budget : ℕ) (outcome : SeriesOutcome) → IsShown Q T budget outcome → IsTrueOutcome Q outcome
shown_is_true Q T budget (Found sets true) shown = (optimal_list Q sets T shown, optimal_is_best_series Q sets T shown)
shown_is_true Q T budget (Found sets false) shown = partial_list Q sets T shown.open_leaves shown.verdict
shown_is_true Q T budget NoSeries shown = no_series_is_none Q None T shown
shown_is_true Q T budget NoneFound shown = tt

-- of one form and one point of weight 1
pub best_form : (Q : SeriesProblem) (outcome : SeriesOutcome) → OneFormIsBest → IsTrueOutcome Q outcome → (g : ℕ) → Q.forms ≡ 1 → weight_of Q g ≡ 1 → ((h : ℕ) → (h ≡ g → ⊥) → weight_of Q h ≡ 0) → IsBestForm Q g outcome
best_form Q (Found sets true) law is g only one others = λ V value. law Q (forms_of sets) V g only one others is.1 value
best_form Q (Found sets false) law is g only one others = tt
best_form Q NoSeries law is g only one others = tt
best_form Q NoneFound law is g only one others = tt

-- where no leaf is Open, the mark is that of a proof
pub closed_mark : (is_open : Bool) (k : ℕ) → (is_open ≡ true → 0 < k) → k ≡ 0 → not is_open ≡ true
closed_mark true k some none = absurd (let more = some refl in omega arith)
closed_mark false k some none = refl

-- ---- with a series or none the nodes show an outcome
module _ (Q : SeriesProblem) (T : Certificate) (budget : ℕ) where
  some_open : (k v : ℕ) → 0 < k → verdict_of (Some v) k ≡ Partial k
  some_open zero v some = absurd (omega arith)
  some_open (suc k) v some = refl

  none_open : (k : ℕ) → 0 < k → verdict_of None k ≡ Partial k
  none_open zero some = absurd (omega arith)
  none_open (suc k) some = refl

  with_list : (sets : List (List ℕ)) (v : ℕ) (verdict : SeriesVerdict) → IsSeriesList Q sets → IsValue Q (forms_of sets) v → IsJudged Q (Some v) T verdict → IsSeriesVerdict Q (Some sets) None T verdict
  with_list sets v verdict series value gives = inl (series, (Some v, (v, value, refl), gives))

  pub found_open : (sets : List (List ℕ)) (v k : ℕ) → IsSeriesList Q sets → IsValue Q (forms_of sets) v → 0 < k → IsJudged Q (Some v) T (verdict_of (Some v) k) → IsSpent Q T budget → IsShown Q T budget (Found sets false)
  found_open sets v k series value some gives spent = record { open_leaves = k; verdict = with_list sets v (Partial k) series value (subst (λ (w : SeriesVerdict). IsJudged Q (Some v) T w) (some_open k v some) gives); spent = spent }

  pub found_closed : (sets : List (List ℕ)) (v k : ℕ) → IsSeriesList Q sets → IsValue Q (forms_of sets) v → k ≡ 0 → IsJudged Q (Some v) T (verdict_of (Some v) k) → IsShown Q T budget (Found sets true)
  found_closed sets v k series value none gives = with_list sets v Optimal series value (subst (λ (n : ℕ). IsJudged Q (Some v) T (verdict_of (Some v) n)) none gives)

  none_found : (k : ℕ) → 0 < k → IsJudged Q None T (verdict_of None k) → IsSpent Q T budget → IsShown Q T budget NoneFound
  none_found k some gives spent = record { open_leaves = k; verdict = inl (tt, (None, refl, subst (λ (w : SeriesVerdict). IsJudged Q None T w) (none_open k some) gives)); spent = spent }

  no_series : (k : ℕ) → k ≡ 0 → IsJudged Q None T (verdict_of None k) → IsShown Q T budget NoSeries
  no_series k none gives = inl (tt, (None, refl, subst (λ (n : ℕ). IsJudged Q None T (verdict_of None n)) none gives))

  no_open : (k : ℕ) → (0 < k → ⊥) → k ≡ 0
  no_open zero h = refl
  no_open (suc k) h = absurd (h (omega arith))

  -- by whether a leaf is Open
  pub found_shown : (sets : List (List ℕ)) (v k : ℕ) (is_open : Bool) → (is_open ≡ true → 0 < k) → (0 < k → is_open ≡ true) → IsSeriesList Q sets → IsValue Q (forms_of sets) v → IsJudged Q (Some v) T (verdict_of (Some v) k) → (0 < k → IsSpent Q T budget) → IsShown Q T budget (Found sets (not is_open))
  found_shown sets v k true some back series value gives spent = found_open sets v k series value (some refl) gives (spent (some refl))
  found_shown sets v k false some back series value gives spent = found_closed sets v k series value (no_open k (λ more. true≢false (sym (back more)))) gives

  pub none_shown : (k : ℕ) → 0 < k → IsJudged Q None T (verdict_of None k) → (0 < k → IsSpent Q T budget) → IsShown Q T budget NoneFound
  none_shown k some gives spent = none_found k some gives (spent some)

  pub no_series_shown : (k : ℕ) (is_open : Bool) → is_open ≡ false → (0 < k → is_open ≡ true) → IsJudged Q None T (verdict_of None k) → IsShown Q T budget NoSeries
  no_series_shown k is_open closed back gives = no_series k (no_open k (λ more. true≢false (sym (back more) ∙ closed))) gives
