-- What a search of the whole problem shows.
use Rattle.std.proofs.Common.{◌≡◌, ℕ, zero, suc, ◌+◌, ◌-◌, ◌/◌, ◌≤◌, ◌<◌, inl, inr, List, [], ◌∷◌, length, get_or, zero-add, refl, subst, arith, Option}
use Rattle.std.proofs.lemmas.List.{append-nil}
use Rattle.std.proofs.lemmas.List.Elements.{All-nil}
use Rattle.bank_tables.specs.Items.{Set}
use Rattle.certificate_model.specs.declared.node.Node.{Node}
use Rattle.form_model.specs.Problem.{Problem}
use Rattle.certificate_model.specs.Paths.{root}
use Rattle.certificate_model.specs.ProofTrees.{ProofTree}
use Rattle.certificate_model.specs.Relaxed.{Multipliers}
use Rattle.certificate_model.specs.Spending.{open_leaves, IsSpent}
use Rattle.form_model.specs.Validity.{IsBudget}
use Rattle.certificate_model.specs.Verdicts.{verdict_of, GivesFrom, IsFormOrNone, IsVerdict}
use Rattle.proof_tree.specs.Shape.{IsTree}
use Rattle.branch_bound.specs.declared.outcome.Outcome.{Outcome}
use Rattle.branch_bound.specs.Assemblies.{IsAssembly}
use Rattle.branch_bound.specs.Comparing.{IsAsGood}
use Rattle.branch_bound.specs.Searches.{plain_tree, AllSuit, IsSearch}
use Rattle.branch_bound.specs.Showing.{Shows}
use Rattle.branch_bound.proofs.Comparisons.{as_good-refl, as_good-trans}
use Rattle.branch_bound.proofs.SearchLaws.{all_sound, all_spent, all_pruned, all_trees, all_numbers}

-- the list of the empty vector alone
one_vector : (v : ℕ) → v < 1 → get_or {A = Multipliers} ([] ∷ []) v [] ≡ []
one_vector zero h = refl
one_vector (suc v) h = absurd (omega arith)

module _ (P : Problem) (B C : Option Set) (k m : ℕ) (nodes : List Node) (search : IsSearch P (root P) B k C m nodes) where
  suit : AllSuit P C nodes (root P ∷ [])
  suit = subst (λ (ns : List Node). AllSuit P C ns (root P ∷ [])) (append-nil nodes) (search.suit C (as_good-refl P C) [] [] tt)

  pub is_tree : length nodes ≤ 4095 → IsTree (plain_tree nodes)
  is_tree few =
      record {
        shape = record {
          vectors = record {
            few = omega arith;
            ascending = λ v within. rw (one_vector v within) tt;
            low_sides = λ v within. rw (one_vector v within) (All-nil _);
            short = λ v within. rw (one_vector v within) (omega arith);
            few_pairs = omega arith;
          };
          few_nodes = few;
          one_tree = all_trees P C nodes (root P ∷ []) suit;
        };
        numbers = all_numbers P C nodes (root P ∷ []) suit;
      }

  pub is_verdict : IsVerdict P C (plain_tree nodes) (verdict_of C (open_leaves nodes))
  is_verdict =
      let gives : GivesFrom P C (plain_tree nodes) 0 0 nodes (root P ∷ []) (verdict_of C (0 + open_leaves nodes)) = all_sound P C nodes 0 0 nodes (root P ∷ []) suit in
      inl (search.form, subst (λ (n : ℕ). GivesFrom P C (plain_tree nodes) 0 0 nodes (root P ∷ []) (verdict_of C n)) (zero-add (open_leaves nodes)) gives)

  pub number : (budget : ℕ) → IsBudget budget → k ≡ (budget - 1) / 2 → (length nodes ≤ budget) × (m ≡ 0 → length nodes ≡ budget)
  number budget is half =
      let uneven = is.uneven in
      let count = search.number in
      (omega arith, λ none. omega arith)

  pub is_spent : (budget : ℕ) → IsBudget budget → k ≡ (budget - 1) / 2 → 0 < open_leaves nodes → IsSpent P (plain_tree nodes) budget
  is_spent budget is half some =
      record {
        nodes = elim search.ended [ inl none ↦ absurd (omega arith) | inr none ↦ (number budget is half).1 none ];
        some_open = some;
        depth_first = search.depth_first;
        unresolved = all_spent P C nodes nodes (root P ∷ []) suit;
      }

  pub is_assembly : (hint : Option Set) (budget : ℕ) (outcome : Outcome)
      → IsBudget budget
      → k ≡ (budget - 1) / 2
      → IsFormOrNone P B
      → IsAsGood P P.start B
      → IsAsGood P hint B
      → ((T : ProofTree) (b : ℕ) → IsVerdict P C T (verdict_of C (open_leaves nodes)) → (0 < open_leaves nodes → IsSpent P T b) → Shows P C T b outcome)
      → IsAssembly P hint budget (plain_tree nodes) outcome
  is_assembly hint budget outcome is half form start hinted shows =
      let shown = shows (plain_tree nodes) budget is_verdict (is_spent budget is half) in
      record {
        shown = shown.shown;
        firm = shown.firm;
        start = shown.as_good P.start (as_good-trans P P.start B C form start search.no_worse);
        hint = shown.as_good hint (as_good-trans P hint B C form hinted search.no_worse);
        pruned = all_pruned P C nodes nodes (root P ∷ []) suit;
      }
