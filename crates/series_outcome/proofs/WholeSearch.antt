-- What a search of the whole problem shows.
use Rattle.std.proofs.Common.{◌≡◌, ℕ, ◌+◌, ◌-◌, ◌*◌, ◌/◌, ◌^◌, ◌≤◌, ◌<◌, inl, inr, List, [], ◌∷◌, length, zero-add, subst, arith, Option}
use Rattle.std.proofs.lemmas.List.{append-nil}
use Rattle.bank_tables.specs.Tables.{size}
use Rattle.form_model.specs.Validity.{IsBudget}
use Rattle.series_model.specs.declared.node.SeriesNode.{SeriesNode}
use Rattle.series_model.specs.Series.{SeriesProblem}
use Rattle.series_model.specs.SeriesPaths.{root}
use Rattle.series_model.specs.SeriesVerdicts.{verdict_of, GivesFrom}
use Rattle.series_tree.specs.Shape.{IsTree, open_leaves}
use Rattle.series_check.specs.Answers.{IsJudged}
use Rattle.series_outcome.specs.Spending.{IsSpent}
use Rattle.series_outcome.specs.Searches.{plain_tree, undecided, AllSuit, IsSearch}
use Rattle.series_outcome.proofs.KnownLaws.{as_good-refl}
use Rattle.series_outcome.proofs.UndecidedLaws.{root_undecided, enough}
use Rattle.series_outcome.proofs.SearchLaws.{all_sound, all_spent, all_trees, all_numbers}

module _ (Q : SeriesProblem) (B C : Option ℕ) (k m : ℕ) (nodes : List SeriesNode) (search : IsSearch Q root B k C m nodes) where
  suit : AllSuit Q C nodes (root ∷ [])
  suit = subst (λ (ns : List SeriesNode). AllSuit Q C ns (root ∷ [])) (append-nil nodes) (search.suit C (as_good-refl C) [] [] tt)

  pub is_tree : length nodes ≤ 4095 → IsTree (plain_tree nodes)
  is_tree few =
      record {
        shape = record {
          vectors = record {
            few = omega arith;
            ascending = λ v within. absurd (omega arith);
            low_sides = λ v within. absurd (omega arith);
            moderate = λ v within. absurd (omega arith);
            short = λ v within. absurd (omega arith);
            few_pairs = omega arith;
          };
          few_nodes = few;
          one_tree = all_trees Q C nodes (root ∷ []) suit;
        };
        numbers = all_numbers Q C nodes (root ∷ []) suit;
      }

  pub is_judged : IsJudged Q C (plain_tree nodes) (verdict_of C (open_leaves nodes))
  is_judged =
      let gives : GivesFrom Q C (plain_tree nodes) 0 0 nodes (root ∷ []) (verdict_of C (0 + open_leaves nodes)) = all_sound Q C nodes 0 0 nodes (root ∷ []) suit in
      subst (λ (n : ℕ). GivesFrom Q C (plain_tree nodes) 0 0 nodes (root ∷ []) (verdict_of C n)) (zero-add (open_leaves nodes)) gives

  pub number : (budget : ℕ) → IsBudget budget → k ≡ (budget - 1) / 2 → (length nodes ≤ budget) × (m ≡ 0 → length nodes ≡ budget)
  number budget is half =
      let uneven = is.uneven in
      let count = search.number in
      (omega arith, λ none. omega arith)

  pub decided : (budget : ℕ) → IsBudget budget → k ≡ (budget - 1) / 2 → 2 ^ (Q.forms * size Q.bank + 1) ≤ budget + 1 → open_leaves nodes ≡ 0
  decided budget is half large =
      let uneven = is.uneven in
      let twice : budget + 1 ≡ 2 * (k + 1) = omega arith in
      (search.decided (enough (Q.forms * size Q.bank) (undecided Q root) k budget (root_undecided Q) large twice)).0

  pub is_spent : (budget : ℕ) → IsBudget budget → k ≡ (budget - 1) / 2 → 0 < open_leaves nodes → IsSpent Q (plain_tree nodes) budget
  is_spent budget is half some =
      record {
        nodes = elim search.ended [ inl none ↦ absurd (omega arith) | inr none ↦ (number budget is half).1 none ];
        some_open = some;
        depth_first = search.depth_first;
        possible = all_spent Q C nodes (root ∷ []) suit;
      }
