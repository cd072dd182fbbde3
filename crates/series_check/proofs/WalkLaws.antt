-- Walks through subtrees make one walk, and the walk through the whole tree gives its verdict.
use Rattle.std.proofs.Common.{◌≡◌, ℕ, zero, suc, ◌+◌, ◌<◌, ◌≤◌, inl, inr, List, [], ◌∷◌, ◌++◌, length, drop, get_or, Option, Some, None, Result, Ok, Err, refl, sym, ap, ◌∙◌, subst, arith, add-zero, add-one, drop-cons}
use Rattle.std.specs.Prelude.{IsSomeAnd}
use Rattle.series_model.specs.declared.node.SeriesNode.{SeriesNode}
use Rattle.series_model.specs.declared.node.SeriesNode.TheVariants.{Branch, Bound, Ray, Count, Whole, Open, Use, Twin}
use Rattle.series_model.specs.declared.verdict.SeriesVerdict.{SeriesVerdict}
use Rattle.series_model.specs.declared.verdict.SeriesVerdict.TheVariants.{Optimal, NoSeries, Bad}
use Rattle.series_model.specs.Series.{SeriesProblem, NoneAbove, BestSeries, HasNoSeries, forms_of}
use Rattle.series_model.specs.SeriesPaths.{SeriesPath, root}
use Rattle.series_model.specs.SeriesTrees.{Certificate, children, AreTrees}
use Rattle.series_model.specs.SeriesVerdicts.{IsSound, below, open_leaf, verdict_of, GivesFrom, IsSeriesVerdict}
use Rattle.series_model.proofs.SeriesTreeLaws.{optimal_is_best_series, optimal_is_at_most, no_series_is_none}
use Rattle.series_check.specs.declared.cut.SeriesCut.{SeriesCut}
use Rattle.series_check.specs.declared.walk.Walked.{Walked}
use Rattle.series_check.specs.Cuts.{path_of}
use Rattle.series_check.specs.Walks.{AreBelow, Passes, IsWalk}

-- the node read is the first of those from its place on
pub read_here : (xs ys : List SeriesNode) (i : ℕ) (d node : SeriesNode) → xs ≡ ys → get_or xs i d ≡ node → i < length ys → drop i ys ≡ node ∷ drop (i + 1) ys
read_here xs ys i d node same is within = rw (add-one, drop-cons ys i d) (ap (λ (n : SeriesNode). n ∷ drop (suc i) ys) (ap (λ (zs : List SeriesNode). get_or zs i d) (sym same) ∙ is))

-- a place where a tree begins is within the nodes
pub begins_within : (xs : List SeriesNode) (i wait : ℕ) → AreTrees (suc wait) (drop i xs) → i < length xs
begins_within [] zero wait trees = absurd trees
begins_within [] (suc i) wait trees = absurd trees
begins_within (node ∷ xs) zero wait trees = omega arith
begins_within (node ∷ xs) (suc i) wait trees = omega (arith, begins_within xs i wait trees)

few_open : (node : SeriesNode) → open_leaf node ≤ 1
few_open (Branch f i) = omega arith
few_open (Bound v) = omega arith
few_open (Ray v) = omega arith
few_open (Count f r) = omega arith
few_open Whole = omega arith
few_open Open = omega arith
few_open (Use i) = omega arith
few_open (Twin f i) = omega arith

-- a branch is no Open leaf
closed : (node : SeriesNode) → children node ≡ 2 → open_leaf node ≡ 0
closed (Branch f i) e = refl
closed (Bound v) e = refl
closed (Ray v) e = refl
closed (Count f r) e = refl
closed Whole e = refl
closed Open e = absurd (omega arith)
closed (Use i) e = refl
closed (Twin f i) e = refl

module _ (Q : SeriesProblem) (U : Option ℕ) (T : Certificate) (at met : ℕ) (p : SeriesPath) (node : SeriesNode)
    (here : drop at T.nodes ≡ node ∷ drop (at + 1) T.nodes)
  where
    pub fails_here : (IsSound Q U T p node → ⊥) → IsWalk Q U T at met p (Err at)
    fails_here unsound = λ paths. rw here (inr (unsound, refl))

    pub leaf_passes : at < length T.nodes → IsSound Q U T p node → AreBelow Q p node None → (after : ℕ) → after ≡ met + open_leaf node → Passes Q U T at met p (at + 1) after
    leaf_passes within sound none after e =
        let one = few_open node in
        record {
          on = omega arith;
          within = omega arith;
          makes = λ wait h. (let trees : AreTrees (wait + children node) (drop (at + 1) T.nodes) = rw here at h in let e : wait + children node ≡ wait = omega (arith, none.1) in subst (λ (n : ℕ). AreTrees n (drop (at + 1) T.nodes)) e trees);
          few = omega (arith, e, one);
          gives = λ paths verdict gives. rw here (inl (sound, rw (none.0, ← e) gives));
        }

    module _ (sound : IsSound Q U T p node) (cuts : SeriesCut × SeriesCut) (two : AreBelow Q p node (Some cuts)) where
      met_same : met + open_leaf node ≡ met
      met_same = ap (λ (k : ℕ). met + k) (closed node two.1) ∙ add-zero met

      pub left_fails : (unsound : ℕ) → IsWalk Q U T (at + 1) met (path_of cuts.0) (Err unsound) → IsWalk Q U T at met p (Err unsound)
      left_fails unsound first = λ paths. rw here (inl (sound, rw (met_same, two.0) (first (path_of cuts.1 ∷ paths))))

      module _ (next more : ℕ) (first : Passes Q U T (at + 1) met (path_of cuts.0) next more) where
        opened : (paths : List SeriesPath) (verdict : SeriesVerdict) → GivesFrom Q U T next more (drop next T.nodes) (path_of cuts.1 ∷ paths) verdict → GivesFrom Q U T at met (drop at T.nodes) (p ∷ paths) verdict
        opened paths verdict gives = rw here (inl (sound, rw (met_same, two.0) (first.gives (path_of cuts.1 ∷ paths) verdict gives)))

        makes_two : (wait : ℕ) → AreTrees (suc wait) (drop at T.nodes) → AreTrees (suc (suc wait)) (drop (at + 1) T.nodes)
        makes_two wait h = let trees : AreTrees (wait + children node) (drop (at + 1) T.nodes) = rw here at h in let e : wait + children node ≡ suc (suc wait) = omega (arith, two.1) in subst (λ (n : ℕ). AreTrees n (drop (at + 1) T.nodes)) e trees

        pub second_begins : (wait : ℕ) → AreTrees (suc wait) (drop at T.nodes) → AreTrees (suc wait) (drop next T.nodes)
        second_begins wait h = first.makes (suc wait) (makes_two wait h)

        pub both_walks : (result : Result Walked ℕ) → IsWalk Q U T next more (path_of cuts.1) result → IsWalk Q U T at met p result
        both_walks (Ok walked) second =
            record {
              on = omega (arith, first.on, second.on);
              within = second.within;
              makes = λ wait h. second.makes wait (second_begins wait h);
              few = omega (arith, first.on, second.on, first.few, second.few);
              gives = λ paths verdict gives. opened paths verdict (second.gives paths verdict gives);
            }
        both_walks (Err unsound) second = λ paths. opened paths (Bad unsound) (second paths)

    pub first_begins : (cuts : SeriesCut × SeriesCut) → AreBelow Q p node (Some cuts) → (wait : ℕ) → AreTrees (suc wait) (drop at T.nodes) → AreTrees (suc (suc wait)) (drop (at + 1) T.nodes)
    first_begins cuts two wait h = let trees : AreTrees (wait + children node) (drop (at + 1) T.nodes) = rw here at h in let e : wait + children node ≡ suc (suc wait) = omega (arith, two.1) in subst (λ (n : ℕ). AreTrees n (drop (at + 1) T.nodes)) e trees

-- ---- the whole tree
no_tree : (xs : List SeriesNode) → AreTrees 0 xs → xs ≡ []
no_tree [] h = refl
no_tree (node ∷ xs) h = absurd h

pub whole_walk : (Q : SeriesProblem) (U : Option ℕ) (T : Certificate) (p : SeriesPath) (next after : ℕ) (verdict : SeriesVerdict) → p ≡ root → AreTrees 1 T.nodes → Passes Q U T 0 0 p next after → verdict ≡ verdict_of U after → GivesFrom Q U T 0 0 T.nodes (root ∷ []) verdict
whole_walk Q U T p next after verdict at_root tree passes is =
    let ended : drop next T.nodes ≡ [] = no_tree (drop next T.nodes) (passes.makes 0 tree) in
    let gives : GivesFrom Q U T 0 0 T.nodes (p ∷ []) verdict = passes.gives [] verdict (rw ended is) in
    subst (λ (q : SeriesPath). GivesFrom Q U T 0 0 T.nodes (q ∷ []) verdict) at_root gives

-- ---- with a series no tree shows that there is none, and without one none shows that it is best
wrong_end : (Q : SeriesProblem) (U : Option ℕ) (T : Certificate) (verdict : SeriesVerdict) → ((met : ℕ) → verdict ≡ verdict_of U met → ⊥) → ((at : ℕ) → verdict ≡ Bad at → ⊥) → (at met : ℕ) (nodes : List SeriesNode) (paths : List SeriesPath) → GivesFrom Q U T at met nodes paths verdict → ⊥
wrong_end Q U T verdict ends bad at met [] [] gives = ends met gives
wrong_end Q U T verdict ends bad at met [] (p ∷ paths) gives = gives
wrong_end Q U T verdict ends bad at met (node ∷ nodes) [] gives = gives
wrong_end Q U T verdict ends bad at met (node ∷ nodes) (p ∷ paths) (inl sound) = wrong_end Q U T verdict ends bad (at + 1) (met + open_leaf node) nodes (below Q p node ++ paths) sound.1
wrong_end Q U T verdict ends bad at met (node ∷ nodes) (p ∷ paths) (inr unsound) = bad at unsound.1

not_optimal : (met : ℕ) → Optimal ≡ verdict_of None met → ⊥
not_optimal zero e = cc
not_optimal (suc met) e = cc

not_none : (top met : ℕ) → NoSeries ≡ verdict_of (Some top) met → ⊥
not_none top zero e = cc
not_none top (suc met) e = cc

optimal_without : (Q : SeriesProblem) (at_most : Option ℕ) (T : Certificate) → IsSeriesVerdict Q None at_most T Optimal → ⊥
optimal_without Q at_most T (inl gives) =
    let (U, is, nodes) = gives.1 in
    wrong_end Q None T Optimal not_optimal (λ at e. cc) 0 0 T.nodes (root ∷ []) (subst (λ (u : Option ℕ). GivesFrom Q u T 0 0 T.nodes (root ∷ []) Optimal) is nodes)
optimal_without Q at_most T (inr bad) = let e = bad.1 in cc

none_with_bar : (Q : SeriesProblem) (T : Certificate) (U : Option ℕ) (top : ℕ) → U ≡ Some top → GivesFrom Q U T 0 0 T.nodes (root ∷ []) NoSeries → ⊥
none_with_bar Q T U top is nodes = wrong_end Q (Some top) T NoSeries (not_none top) (λ at e. cc) 0 0 T.nodes (root ∷ []) (subst (λ (u : Option ℕ). GivesFrom Q u T 0 0 T.nodes (root ∷ []) NoSeries) is nodes)

none_with : (Q : SeriesProblem) (sets : List (List ℕ)) (at_most : Option ℕ) (T : Certificate) → IsSeriesVerdict Q (Some sets) at_most T NoSeries → ⊥
none_with Q sets (Some top) T (inl gives) = let (U, is, nodes) = gives.1 in none_with_bar Q T U top is nodes
none_with Q sets None T (inl gives) = let (U, bar, nodes) = gives.1 in let (V, value, is) = bar in none_with_bar Q T U V is nodes
none_with Q sets at_most T (inr bad) = let e = bad.1 in cc

pub best_clause : (Q : SeriesProblem) (given : Option (List (List ℕ))) (at_most : Option ℕ) (T : Certificate) (verdict : SeriesVerdict) → IsSeriesVerdict Q given at_most T verdict → verdict ≡ Optimal → at_most ≡ None → IsSomeAnd given (λ sets. BestSeries Q (forms_of sets))
best_clause Q (Some sets) at_most T verdict is e d =
    optimal_is_best_series Q sets T (subst (λ (m : Option ℕ). IsSeriesVerdict Q (Some sets) m T Optimal) d (subst (IsSeriesVerdict Q (Some sets) at_most T) e is))
best_clause Q None at_most T verdict is e d = absurd (optimal_without Q at_most T (subst (IsSeriesVerdict Q None at_most T) e is))

pub at_most_clause : (Q : SeriesProblem) (given : Option (List (List ℕ))) (at_most : Option ℕ) (T : Certificate) (verdict : SeriesVerdict) (top : ℕ) → IsSeriesVerdict Q given at_most T verdict → verdict ≡ Optimal → at_most ≡ Some top → NoneAbove Q top
at_most_clause Q (Some sets) at_most T verdict top is e d =
    optimal_is_at_most Q sets top T (subst (λ (m : Option ℕ). IsSeriesVerdict Q (Some sets) m T Optimal) d (subst (IsSeriesVerdict Q (Some sets) at_most T) e is))
at_most_clause Q None at_most T verdict top is e d = absurd (optimal_without Q at_most T (subst (IsSeriesVerdict Q None at_most T) e is))

pub none_clause : (Q : SeriesProblem) (given : Option (List (List ℕ))) (at_most : Option ℕ) (T : Certificate) (verdict : SeriesVerdict) → IsSeriesVerdict Q given at_most T verdict → verdict ≡ NoSeries → HasNoSeries Q
none_clause Q None at_most T verdict is e = no_series_is_none Q at_most T (subst (IsSeriesVerdict Q None at_most T) e is)
none_clause Q (Some sets) at_most T verdict is e = absurd (none_with Q sets at_most T (subst (IsSeriesVerdict Q (Some sets) at_most T) e is))
