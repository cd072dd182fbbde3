-- The searches of the two sides of a branch make that of its path; and what a whole search shows.
use Rattle.std.proofs.Common.{◌≡◌, ℕ, suc, ◌+◌, ◌^◌, ◌≤◌, ◌⊎◌, inl, inr, true, false, List, [], ◌∷◌, ◌++◌, length, sym, ap, ◌∙◌, subst, arith, add-zero, append_assoc, length-append, Option}
use Rattle.std.specs.Prelude.{All}
use Rattle.std.proofs.lemmas.List.Elements.{All-nil, All-cons}
use Rattle.series_model.specs.declared.node.SeriesNode.{SeriesNode}
use Rattle.series_model.specs.declared.node.SeriesNode.TheVariants.{Branch, Bound, Ray, Count, Whole, Open, Use, Twin}
use Rattle.series_model.specs.Series.{SeriesProblem}
use Rattle.series_model.specs.SeriesPaths.{SeriesPath, with_form}
use Rattle.series_model.specs.SeriesTrees.{AreTrees}
use Rattle.series_model.specs.SeriesVerdicts.{IsSound, IsFormBranch, below, open_leaf, verdict_of, GivesFrom}
use Rattle.series_tree.specs.Shape.{IsNode, open_leaves}
use Rattle.series_outcome.specs.Spending.{HasNoBranch, IsDepthFirst, AreSpentNodes}
use Rattle.series_outcome.specs.Searches.{plain_tree, undecided, IsAsGood, Suits, AllSuit, IsSearch, Adds, Ends, GoesOn}
use Rattle.series_outcome.proofs.KnownLaws.{as_good-refl, as_good-trans}
use Rattle.series_outcome.proofs.UndecidedLaws.{left_decides, right_decides, none_undecided, half, one_at_least, at_most_one}

-- ---- lists of nodes one after the other
pub no_branch-append : (xs ys : List SeriesNode) → HasNoBranch xs → HasNoBranch ys → HasNoBranch (xs ++ ys)
no_branch-append [] ys a b = b
no_branch-append (x ∷ xs) ys a b = (a.0, no_branch-append xs ys a.1 b)

pub open_leaves-append : (xs ys : List SeriesNode) → open_leaves (xs ++ ys) ≡ open_leaves xs + open_leaves ys
open_leaves-append [] ys = omega arith
open_leaves-append (x ∷ xs) ys = omega (arith, open_leaves-append xs ys)

-- no branch is after an Open leaf: the first list has no Open leaf, or the second has no branch
pub depth_first-append : (xs ys : List SeriesNode) → IsDepthFirst xs → IsDepthFirst ys → (open_leaves xs ≡ 0) ⊎ HasNoBranch ys → IsDepthFirst (xs ++ ys)
depth_first-append [] ys a b c = b
depth_first-append (Open ∷ xs) ys a b (inl none) = absurd (omega arith)
depth_first-append (Open ∷ xs) ys a b (inr no_branch) = no_branch-append xs ys a no_branch
depth_first-append (Branch f i ∷ xs) ys a b (inl none) = depth_first-append xs ys a b (inl (omega arith))
depth_first-append (Branch f i ∷ xs) ys a b (inr no_branch) = depth_first-append xs ys a b (inr no_branch)
depth_first-append (Use i ∷ xs) ys a b (inl none) = depth_first-append xs ys a b (inl (omega arith))
depth_first-append (Use i ∷ xs) ys a b (inr no_branch) = depth_first-append xs ys a b (inr no_branch)
depth_first-append (Twin f i ∷ xs) ys a b (inl none) = depth_first-append xs ys a b (inl (omega arith))
depth_first-append (Twin f i ∷ xs) ys a b (inr no_branch) = depth_first-append xs ys a b (inr no_branch)
depth_first-append (Bound i ∷ xs) ys a b (inl none) = depth_first-append xs ys a b (inl (omega arith))
depth_first-append (Bound i ∷ xs) ys a b (inr no_branch) = depth_first-append xs ys a b (inr no_branch)
depth_first-append (Ray i ∷ xs) ys a b (inl none) = depth_first-append xs ys a b (inl (omega arith))
depth_first-append (Ray i ∷ xs) ys a b (inr no_branch) = depth_first-append xs ys a b (inr no_branch)
depth_first-append (Count f i ∷ xs) ys a b (inl none) = depth_first-append xs ys a b (inl (omega arith))
depth_first-append (Count f i ∷ xs) ys a b (inr no_branch) = depth_first-append xs ys a b (inr no_branch)
depth_first-append (Whole ∷ xs) ys a b (inl none) = depth_first-append xs ys a b (inl (omega arith))
depth_first-append (Whole ∷ xs) ys a b (inr no_branch) = depth_first-append xs ys a b (inr no_branch)

one_depth_first : (node : SeriesNode) → IsDepthFirst (node ∷ [])
one_depth_first (Branch f i) = tt
one_depth_first (Use i) = tt
one_depth_first (Twin f i) = tt
one_depth_first (Bound v) = tt
one_depth_first (Ray v) = tt
one_depth_first (Count f r) = tt
one_depth_first Whole = tt
one_depth_first Open = tt

-- ---- a leaf
pub leaf_search : (Q : SeriesProblem) (p : SeriesPath) (B C : Option ℕ) (k : ℕ) (node : SeriesNode) → Ends Q p B C node → IsSearch Q p B k C k (node ∷ [])
leaf_search Q p B C k node ends =
    record {
      no_worse = ends.no_worse;
      suit = λ U as_good rest paths all. (ends.suits U as_good, rw ends.leaf all);
      number = omega arith;
      depth_first = one_depth_first node;
      ended = inl (omega (arith, ends.not_open));
      no_branch = λ _. (ends.no_branch, tt);
      decided = λ large. (omega (arith, ends.not_open), omega (arith, one_at_least (undecided Q p)));
    }

-- an Open leaf where no branch is left
pub open_search : (Q : SeriesProblem) (p : SeriesPath) (B C : Option ℕ) (k : ℕ) → GoesOn Q p B C → k ≡ 0 → IsSearch Q p B k C k (Open ∷ [])
open_search Q p B C k on none =
    record {
      no_worse = subst (λ (Z : Option ℕ). IsAsGood B Z) (sym on.same) (as_good-refl B);
      suit = λ U as_good rest paths all. (record { sound = on.several; spent = on.possible; number = tt }, all);
      number = omega arith;
      depth_first = tt;
      ended = inr none;
      no_branch = λ _. ((λ b. b), tt);
      decided = λ large. absurd (on.several (none_undecided Q p (at_most_one (undecided Q p) (omega arith))));
    }

-- ---- a branch and the searches of its sides
module _ (Q : SeriesProblem) (p : SeriesPath) (f i : ℕ) (B C D : Option ℕ) (k m n : ℕ) (left right : List SeriesNode)
    (placed : (U : Option ℕ) → Suits Q U p (Branch f i))
    (branch : IsFormBranch Q p f i)
    (first : IsSearch Q (with_form p f i true) B k C m left)
    (second : IsSearch Q (with_form p f i false) C m D n right)
  where
    both_suit : (U : Option ℕ) → IsAsGood D U → (rest : List SeriesNode) (paths : List SeriesPath) → AllSuit Q U rest paths → AllSuit Q U ((Branch f i ∷ (left ++ right)) ++ rest) (p ∷ paths)
    both_suit U as_good rest paths all =
        let behind = second.suit U as_good rest paths all in
        let whole = first.suit U (as_good-trans C D U second.no_worse as_good) (right ++ rest) (with_form p f i false ∷ paths) behind in (
          placed U,
          subst (λ (ns : List SeriesNode). AllSuit Q U ns (with_form p f i true ∷ with_form p f i false ∷ paths)) (sym (append_assoc left right rest)) whole,
        )

    both_ended : (open_leaves (Branch f i ∷ (left ++ right)) ≡ 0) ⊎ (n ≡ 0)
    both_ended =
        elim second.ended [
          | inr none_left ↦ inr none_left
          | inl no_open ↦
              elim first.ended [
                | inl none ↦ inl (omega (arith, open_leaves-append left right))
                | inr none_left ↦ inr (omega (arith, second.number))
              ]
        ]

    both_decided : 2 ^ undecided Q p ≤ k + 1 + 1 → (open_leaves (Branch f i ∷ (left ++ right)) ≡ 0) × (k + 1 + 1 ≤ n + 2 ^ undecided Q p)
    both_decided large =
        let l = half (undecided Q (with_form p f i true)) (undecided Q p) (left_decides Q p f i branch.form branch.free) in
        let r = half (undecided Q (with_form p f i false)) (undecided Q p) (right_decides Q p f i branch.form branch.free) in
        let one = one_at_least (undecided Q (with_form p f i true)) in
        let some = one_at_least (undecided Q (with_form p f i false)) in
        let a = first.decided (omega arith) in
        let b = second.decided (omega (arith, a.1)) in
        (omega (arith, open_leaves-append left right, a.0, b.0), omega (arith, a.1, b.1))

    pub branch_search : IsSearch Q p B (k + 1) D n (Branch f i ∷ (left ++ right))
    branch_search =
        record {
          no_worse = as_good-trans B C D first.no_worse second.no_worse;
          suit = both_suit;
          number = omega (arith, first.number, second.number, length-append left right);
          depth_first = depth_first-append left right first.depth_first second.depth_first (elim first.ended [ inl none ↦ inl none | inr none_left ↦ inr (second.no_branch none_left) ]);
          ended = both_ended;
          no_branch = λ e. absurd (omega arith);
          decided = both_decided;
        }

-- a branch, and the nodes of its two sides
pub branch_adds : (Q : SeriesProblem) (p : SeriesPath) (f i : ℕ) (B C D E : Option ℕ) (j k m n : ℕ) (before here between after : List SeriesNode)
    → GoesOn Q p B C
    → ((U : Option ℕ) → Suits Q U p (Branch f i))
    → IsFormBranch Q p f i
    → j + 1 ≡ k
    → here ≡ before ++ Branch f i ∷ []
    → Adds Q (with_form p f i true) C j here D m between
    → Adds Q (with_form p f i false) D m between E n after
    → Adds Q p B k before E n after
branch_adds Q p f i B C D E j k m n before here between after on placed branch less pushed first second =
    let whole = branch_search Q p f i C D E j m n first.nodes second.nodes placed branch first.search second.search in
    let from : IsSearch Q p B (j + 1) E n (Branch f i ∷ (first.nodes ++ second.nodes)) = subst (λ (Z : Option ℕ). IsSearch Q p Z (j + 1) E n (Branch f i ∷ (first.nodes ++ second.nodes))) on.same whole in
    record {
      nodes = Branch f i ∷ (first.nodes ++ second.nodes);
      added = second.added
          ∙ ap (λ (xs : List SeriesNode). xs ++ second.nodes) (first.added ∙ ap (λ (xs : List SeriesNode). xs ++ first.nodes) pushed)
          ∙ append_assoc (before ++ Branch f i ∷ []) first.nodes second.nodes
          ∙ append_assoc before (Branch f i ∷ []) (first.nodes ++ second.nodes);
      search = subst (λ (b : ℕ). IsSearch Q p B b E n (Branch f i ∷ (first.nodes ++ second.nodes))) less from;
    }

-- ---- what a whole search shows
sound_same : (Q : SeriesProblem) (U : Option ℕ) (all : List SeriesNode) (p : SeriesPath) (node : SeriesNode) → IsSound Q U (plain_tree []) p node → IsSound Q U (plain_tree all) p node
sound_same Q U all p (Branch f i) s = s
sound_same Q U all p (Use i) s = s
sound_same Q U all p (Twin f i) s = s
sound_same Q U all p (Bound v) s = s
sound_same Q U all p (Ray v) s = s
sound_same Q U all p (Count f r) s = s
sound_same Q U all p Whole s = s
sound_same Q U all p Open s = s

module _ (Q : SeriesProblem) (U : Option ℕ) where
  pub all_sound : (all : List SeriesNode) (at met : ℕ) (nodes : List SeriesNode) (paths : List SeriesPath) → AllSuit Q U nodes paths → GivesFrom Q U (plain_tree all) at met nodes paths (verdict_of U (met + open_leaves nodes))
  all_sound all at met [] [] h = ap (λ (k : ℕ). verdict_of U k) (add-zero met)
  all_sound all at met [] (p ∷ paths) h = absurd h
  all_sound all at met (node ∷ nodes) [] h = absurd h
  all_sound all at met (node ∷ nodes) (p ∷ paths) h =
      let e : met + open_leaf node + open_leaves nodes ≡ met + (open_leaf node + open_leaves nodes) = omega arith in
      let rest = all_sound all (at + 1) (met + open_leaf node) nodes (below Q p node ++ paths) h.1 in
      inl (
        sound_same Q U all p node h.0.sound,
        subst (λ (k : ℕ). GivesFrom Q U (plain_tree all) (at + 1) (met + open_leaf node) nodes (below Q p node ++ paths) (verdict_of U k)) e rest,
      )

  pub all_spent : (nodes : List SeriesNode) (paths : List SeriesPath) → AllSuit Q U nodes paths → AreSpentNodes Q nodes paths
  all_spent [] [] h = tt
  all_spent [] (p ∷ paths) h = absurd h
  all_spent (node ∷ nodes) [] h = absurd h
  all_spent (node ∷ nodes) (p ∷ paths) h = (h.0.spent, all_spent nodes (below Q p node ++ paths) h.1)

  trees_of : (n m : ℕ) (nodes : List SeriesNode) → n ≡ m → AreTrees n nodes → AreTrees m nodes
  trees_of n m nodes e trees = subst (λ (k : ℕ). AreTrees k nodes) e trees

  pub all_trees : (nodes : List SeriesNode) (paths : List SeriesPath) → AllSuit Q U nodes paths → AreTrees (length paths) nodes
  all_trees [] [] h = tt
  all_trees [] (p ∷ paths) h = absurd h
  all_trees (node ∷ nodes) [] h = absurd h
  all_trees (Branch f i ∷ nodes) (p ∷ paths) h = trees_of (suc (suc (length paths))) (length paths + 2) nodes (omega arith) (all_trees nodes (below Q p (Branch f i) ++ paths) h.1)
  all_trees (Use i ∷ nodes) (p ∷ paths) h = trees_of (suc (suc (length paths))) (length paths + 2) nodes (omega arith) (all_trees nodes (below Q p (Use i) ++ paths) h.1)
  all_trees (Twin f i ∷ nodes) (p ∷ paths) h = trees_of (suc (suc (length paths))) (length paths + 2) nodes (omega arith) (all_trees nodes (below Q p (Twin f i) ++ paths) h.1)
  all_trees (Bound v ∷ nodes) (p ∷ paths) h = trees_of (length paths) (length paths + 0) nodes (omega arith) (all_trees nodes paths h.1)
  all_trees (Ray v ∷ nodes) (p ∷ paths) h = trees_of (length paths) (length paths + 0) nodes (omega arith) (all_trees nodes paths h.1)
  all_trees (Count f r ∷ nodes) (p ∷ paths) h = trees_of (length paths) (length paths + 0) nodes (omega arith) (all_trees nodes paths h.1)
  all_trees (Whole ∷ nodes) (p ∷ paths) h = trees_of (length paths) (length paths + 0) nodes (omega arith) (all_trees nodes paths h.1)
  all_trees (Open ∷ nodes) (p ∷ paths) h = trees_of (length paths) (length paths + 0) nodes (omega arith) (all_trees nodes paths h.1)

  pub all_numbers : (nodes : List SeriesNode) (paths : List SeriesPath) → AllSuit Q U nodes paths → All IsNode nodes
  all_numbers [] [] h = All-nil IsNode
  all_numbers [] (p ∷ paths) h = absurd h
  all_numbers (node ∷ nodes) [] h = absurd h
  all_numbers (node ∷ nodes) (p ∷ paths) h = All-cons IsNode node nodes h.0.number (all_numbers nodes (below Q p node ++ paths) h.1)
