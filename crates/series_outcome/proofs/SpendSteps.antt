-- A walk through a series tree that spends its node budget.
use Rattle.std.proofs.Common.{◌≡◌, ℕ, suc, ◌+◌, ◌<◌, List, [], ◌∷◌, length, drop, Option, Some, None, Bool, true, not, ap, refl, sym, subst, ◌∙◌, arith}
use Rattle.std.specs.Prelude.{is_some}
use Rattle.std.proofs.Math.Bool.{true≢false}
use Rattle.series_model.specs.declared.node.SeriesNode.{SeriesNode}
use Rattle.series_model.specs.declared.node.SeriesNode.TheVariants.{Branch, Bound, Ray, Count, Whole, Open, Use, Twin}
use Rattle.series_model.specs.Series.{SeriesProblem}
use Rattle.series_model.specs.SeriesPaths.{SeriesPath, root}
use Rattle.series_model.specs.SeriesTrees.{Certificate, children, AreTrees}
use Rattle.series_model.specs.SeriesVerdicts.{below}
use Rattle.series_tree.specs.Shape.{IsBranch}
use Rattle.series_check.specs.declared.cut.SeriesCut.{SeriesCut}
use Rattle.series_check.specs.Cuts.{path_of}
use Rattle.series_check.specs.Walks.{AreBelow}
use Rattle.series_outcome.specs.declared.counted.FormRow.{FormRow}
use Rattle.series_outcome.specs.Spending.{IsPossible, AreSpentNodes, IsSpentNode}
use Rattle.series_outcome.specs.Walks.{IsCounted, SpendsTo, IsSpending}

-- a node that is no branch has nothing below it
pub no_branch_below : (Q : SeriesProblem) (p : SeriesPath) (node : SeriesNode) → (IsBranch node → ⊥) → (below Q p node ≡ []) × (children node ≡ 0)
no_branch_below Q p (Branch f i) not = absurd (not tt)
no_branch_below Q p (Bound v) not = (refl, refl)
no_branch_below Q p (Ray v) not = (refl, refl)
no_branch_below Q p (Count f r) not = (refl, refl)
no_branch_below Q p Whole not = (refl, refl)
no_branch_below Q p Open not = (refl, refl)
no_branch_below Q p (Use i) not = absurd (not tt)
no_branch_below Q p (Twin f i) not = absurd (not tt)

module _ (Q : SeriesProblem) (T : Certificate) (at : ℕ) (p : SeriesPath) (node : SeriesNode)
    (here : drop at T.nodes ≡ node ∷ drop (at + 1) T.nodes)
    (spent : IsSpentNode Q p node)
  where
    pub leaf_spends : at < length T.nodes → (IsBranch node → ⊥) → SpendsTo Q T at p (at + 1)
    leaf_spends within not =
        let none = no_branch_below Q p node not in
        record {
          on = omega arith;
          within = omega arith;
          makes = λ wait h. (let trees : AreTrees (wait + children node) (drop (at + 1) T.nodes) = rw here at h in let e : wait + children node ≡ wait = omega (arith, none.1) in subst (λ (n : ℕ). AreTrees n (drop (at + 1) T.nodes)) e trees);
          spent = λ paths rest. rw here (spent, rw none.0 rest);
        }

    module _ (cuts : SeriesCut × SeriesCut) (two : AreBelow Q p node (Some cuts)) where
      pub makes_two : (wait : ℕ) → AreTrees (suc wait) (drop at T.nodes) → AreTrees (suc (suc wait)) (drop (at + 1) T.nodes)
      makes_two wait h = let trees : AreTrees (wait + children node) (drop (at + 1) T.nodes) = rw here at h in let e : wait + children node ≡ suc (suc wait) = omega (arith, two.1) in subst (λ (n : ℕ). AreTrees n (drop (at + 1) T.nodes)) e trees

      module _ (next : ℕ) (first : SpendsTo Q T (at + 1) (path_of cuts.0) next) where
        pub second_begins : (wait : ℕ) → AreTrees (suc wait) (drop at T.nodes) → AreTrees (suc wait) (drop next T.nodes)
        second_begins wait h = first.makes (suc wait) (makes_two wait h)

        pub both_spend : (result : Option ℕ) → IsSpending Q T next (path_of cuts.1) result → IsSpending Q T at p result
        both_spend (Some after) second =
            record {
              on = omega (arith, first.on, second.on);
              within = second.within;
              makes = λ wait h. second.makes wait (second_begins wait h);
              spent = λ paths rest. rw here (spent, rw two.0 (first.spent (path_of cuts.1 ∷ paths) (second.spent paths rest)));
            }
        both_spend None second = tt

-- the whole tree
no_tree : (xs : List SeriesNode) → AreTrees 0 xs → xs ≡ []
no_tree [] h = refl
no_tree (node ∷ xs) h = absurd h

pub all_spent : (Q : SeriesProblem) (T : Certificate) (p : SeriesPath) (result : Option ℕ) (found : Bool) → found ≡ is_some result → found ≡ true → p ≡ root → AreTrees 1 T.nodes → IsSpending Q T 0 p result → AreSpentNodes Q T.nodes (root ∷ [])
all_spent Q T p None found is some at_root tree spends = absurd (true≢false (sym some ∙ is))
all_spent Q T p (Some next) found is some at_root tree spends =
    let ended : drop next T.nodes ≡ [] = no_tree (drop next T.nodes) (spends.makes 0 tree) in
    let whole : AreSpentNodes Q T.nodes (p ∷ []) = spends.spent [] (rw ended tt) in
    subst (λ (q : SeriesPath). AreSpentNodes Q T.nodes (q ∷ [])) at_root whole

-- what is possible is as in a spent tree, whatever the node
pub possible_spent : (Q : SeriesProblem) (p : SeriesPath) (node : SeriesNode) → IsPossible Q p → IsSpentNode Q p node
possible_spent Q p (Branch f i) possible = possible
possible_spent Q p (Bound v) possible = tt
possible_spent Q p (Ray v) possible = tt
possible_spent Q p (Count f r) possible = tt
possible_spent Q p Whole possible = tt
possible_spent Q p Open possible = possible
possible_spent Q p (Use i) possible = possible
possible_spent Q p (Twin f i) possible = possible

pub none_counted : (Q : SeriesProblem) (p : SeriesPath) (found : Option FormRow) (none : Bool) → IsCounted Q p found → is_some found ≡ not none → none ≡ true → IsPossible Q p
none_counted Q p None none counted is e = counted
none_counted Q p (Some which) none counted is e = absurd (true≢false (is ∙ ap not e))
