-- The verdict on a series tree.
use Rattle.std.specs.Prelude.{◌≡◌, ℕ, zero, suc, ◌+◌, ◌*◌, ◌<◌, ◌≤◌, ◌⊎◌, ◌||◌, Bool, true, false, List, [], ◌∷◌, ◌++◌, length, IsTrue, IsFalse, ℤ, pos, ◌<ℤ◌, Option, Some, None, All}
use Rattle.bank_tables.specs.Tables.{size}
use Rattle.certificate_model.specs.Counting.{is_impossible}
use Rattle.form_model.specs.Forms.{stimuli_of}
use Rattle.certificate_model.specs.Relaxed.{Multipliers}
use Rattle.series_model.specs.declared.node.SeriesNode.{SeriesNode}
use Rattle.series_model.specs.declared.node.SeriesNode.TheVariants.{Branch, Bound, Ray, Count, Whole, Open, Use, Twin}
use Rattle.series_model.specs.declared.verdict.SeriesVerdict.{SeriesVerdict}
use Rattle.series_model.specs.declared.verdict.SeriesVerdict.TheVariants.{Optimal, NoSeries, Partial, Bad}
use Rattle.series_model.specs.Series.{SeriesProblem, Forms, IsSeries, IsValue, forms_of, IsSeriesList}
use Rattle.series_model.specs.SeriesTrees.{Certificate, vector_at, names_pool}
use Rattle.series_model.specs.SeriesPaths.{SeriesPath, root, form_problem, form_path, is_free_in, with_form, is_placed, is_live, with_use, is_use_lost, are_uses_many}
use Rattle.series_model.specs.SeriesTwins.{without_twins}
use Rattle.series_model.specs.SeriesBounds.{point_side, use_side, first_side, points}
use Rattle.series_model.specs.SeriesPools.{length_side, pool_mark, IsMaximumBy, goal_of}

-- the side is one of the common use of an item; by the rule of the pool, one of a form's length, or
-- the mark
abbrev pub IsCommonSide : SeriesProblem → Bool → ℕ → Type 0
IsCommonSide Q false side = (i : ℕ) × (i < size Q.bank) × (side ≡ use_side i)
IsCommonSide Q true side = ((s : ℕ) × (s < 2 * Q.forms) × (side ≡ length_side 0 + s)) ⊎ (side ≡ pool_mark)

-- the side is one of a form of the series at a grid point, one that the forms have in common, or
-- one of a form's rows and stimuli
abbrev pub IsSide : SeriesProblem → Bool → ℕ → Type 0
IsSide Q pool side =
    ((f : ℕ) × (g : ℕ) × (f < Q.forms) × (g < Q.bank.grid) × (side ≡ point_side f g))
    ⊎ IsCommonSide Q pool side
    ⊎ ((f : ℕ) × (s : ℕ) × (f < Q.forms) × (s < 2 * length Q.plan.rows + 2 * stimuli_of Q.bank) × (side ≡ first_side f + s))

-- each side named is one of these; the vector is one of the pool where it names a side of the pool
abbrev pub NamesOnlySides : SeriesProblem → Multipliers → Type 0
NamesOnlySides Q v = All (λ pair. IsSide Q (names_pool v) pair.0) v

-- the relaxed maximum is defined, and below a number
pub record MaximumIsBelow (Q : SeriesProblem) (p : SeriesPath) (v : Multipliers) (ray : Bool) (top : ℤ) : Type 0 where
  pub maximum : ℤ
  pub is_maximum : IsMaximumBy (names_pool v) Q p v ray maximum
  pub below : maximum <ℤ top

-- some point that counts has a multiplier, and the relaxed maximum is too low for a series whose
-- value is above U
abbrev pub ClosesByBound : SeriesProblem → Option ℕ → SeriesPath → Multipliers → Type 0
ClosesByBound Q None p v = ⊥
ClosesByBound Q (Some U) p v = (0 < points Q v) × MaximumIsBelow Q p v false (pos (goal_of Q v U))

-- no item is free in a form
abbrev pub IsWholePath : SeriesProblem → SeriesPath → Type 0
IsWholePath Q p = (f i : ℕ) → f < Q.forms → IsFalse (is_free_in Q p f i)

-- the sets left are no series, or their value is at most U
abbrev pub IsSettled : SeriesProblem → Option ℕ → Forms → Type 0
IsSettled Q None S = IsSeries Q S → ⊥
IsSettled Q (Some U) S = (V : ℕ) → IsSeries Q S → IsValue Q S V → V ≤ U

-- a branch on an item that is free in the form
pub record IsFormBranch (Q : SeriesProblem) (p : SeriesPath) (f i : ℕ) : Type 0 where
  pub form : f < Q.forms
  pub free : IsTrue (is_free_in Q p f i)

-- a branch on the use of an item that is in no form, not used yet, and free in some form
pub record IsUseBranch (Q : SeriesProblem) (p : SeriesPath) (i : ℕ) : Type 0 where
  pub not_placed : IsFalse (is_placed Q p i)
  pub not_used : IsFalse (p.used i)
  pub live : IsTrue (is_live Q p i)

-- row r of form f is impossible by counting, or the uses are, whichever row is named
abbrev pub IsCountedOut : SeriesProblem → SeriesPath → ℕ → ℕ → Type 0
IsCountedOut Q p f r =
    IsTrue (is_impossible (form_problem Q) (form_path Q p f) r)
    ⊎ ((r ≤ length Q.plan.rows + stimuli_of Q.bank) × IsTrue (is_use_lost Q p || are_uses_many Q p))

-- the node is sound on the path p, where no series with a value above U is sought, or no series at
-- all
abbrev pub IsSound : SeriesProblem → Option ℕ → Certificate → SeriesPath → SeriesNode → Type 0
IsSound Q U T p (Branch f i) = IsFormBranch Q p f i
IsSound Q U T p (Bound v) = (v < length T.vectors) × NamesOnlySides Q (vector_at T v) × ClosesByBound Q U p (vector_at T v)
IsSound Q U T p (Ray v) = (v < length T.vectors) × NamesOnlySides Q (vector_at T v) × MaximumIsBelow Q p (vector_at T v) true (pos 0)
IsSound Q U T p (Count f r) = (f < Q.forms) × IsCountedOut Q p f r
IsSound Q U T p Whole = IsWholePath Q p × IsSettled Q U p.taken
IsSound Q U T p Open = IsWholePath Q p → ⊥
IsSound Q U T p (Twin f i) = IsFormBranch Q p f i
IsSound Q U T p (Use i) = IsUseBranch Q p i

-- the paths below a node, left first
abbrev pub below : SeriesProblem → SeriesPath → SeriesNode → List SeriesPath
below Q p (Branch f i) = with_form p f i true ∷ with_form p f i false ∷ []
below Q p (Use i) = with_use Q p i true ∷ with_use Q p i false ∷ []
below Q p (Twin f i) = with_form p f i true ∷ without_twins Q p f i ∷ []
below Q p node = []

-- how many Open leaves a node is
abbrev pub open_leaf : SeriesNode → ℕ
open_leaf Open = 1
open_leaf node = 0

-- the verdict where all nodes are sound, by the number of Open leaves
abbrev pub verdict_of : Option ℕ → ℕ → SeriesVerdict
verdict_of U (suc met) = Partial (suc met)
verdict_of (Some U) zero = Optimal
verdict_of None zero = NoSeries

-- the verdict on the nodes from place `at` on, one subtree for each waiting path, with `met` Open
-- leaves before
abbrev pub GivesFrom : SeriesProblem → Option ℕ → Certificate → ℕ → ℕ → List SeriesNode → List SeriesPath → SeriesVerdict → Type 0
GivesFrom Q U T at met [] [] verdict = verdict ≡ verdict_of U met
GivesFrom Q U T at met [] (p ∷ paths) verdict = ⊥
GivesFrom Q U T at met (node ∷ nodes) [] verdict = ⊥
GivesFrom Q U T at met (node ∷ nodes) (p ∷ paths) verdict =
    (IsSound Q U T p node × GivesFrom Q U T (at + 1) (met + open_leaf node) nodes (below Q p node ++ paths) verdict)
    ⊎ ((IsSound Q U T p node → ⊥) × (verdict ≡ Bad at))

-- the sets are a series, or there are none
abbrev pub IsSeriesOrNone : SeriesProblem → Option (List (List ℕ)) → Type 0
IsSeriesOrNone Q (Some sets) = IsSeriesList Q sets
IsSeriesOrNone Q None = Unit {0}

-- U is the number above which the tree shows that no series is: the one given, or the value of the
-- series; without a series there is none
abbrev pub IsBar : SeriesProblem → Option (List (List ℕ)) → Option ℕ → Option ℕ → Type 0
IsBar Q None at_most U = U ≡ None
IsBar Q (Some sets) (Some top) U = U ≡ Some top
IsBar Q (Some sets) None U = (V : ℕ) × IsValue Q (forms_of sets) V × (U ≡ Some V)

-- the verdict on the tree T with a series or none, and with a number in place of its value or none
abbrev pub IsSeriesVerdict : SeriesProblem → Option (List (List ℕ)) → Option ℕ → Certificate → SeriesVerdict → Type 0
IsSeriesVerdict Q S at_most T verdict =
    (IsSeriesOrNone Q S × ((U : Option ℕ) × IsBar Q S at_most U × GivesFrom Q U T 0 0 T.nodes (root ∷ []) verdict))
    ⊎ ((IsSeriesOrNone Q S → ⊥) × (verdict ≡ Bad 0))
