-- The searches of the two sides of a branch make that of its path; and what a whole search shows.
use Rattle.std.proofs.Common.{◌≡◌, ℕ, ◌+◌, ◌⊎◌, inl, inr, List, [], ◌∷◌, ◌++◌, length, refl, sym, ap, subst, arith, add-zero, append_assoc, length-append, Option}
use Rattle.std.specs.Prelude.{All}
use Rattle.std.proofs.lemmas.List.Elements.{All-nil, All-cons}
use Rattle.bank_tables.specs.Items.{Set}
use Rattle.certificate_model.specs.declared.node.Node.{Node}
use Rattle.certificate_model.specs.declared.node.Node.TheVariants.{BranchItem, BranchStimulus, Bound, Ray, Count, Whole, Open, Fix}
use Rattle.form_model.specs.Problem.{Problem}
use Rattle.certificate_model.specs.Paths.{Path}
use Rattle.certificate_model.specs.ProofTrees.{AreTrees}
use Rattle.certificate_model.specs.Pruning.{ArePruned}
use Rattle.certificate_model.specs.Verdicts.{IsSound, below, open_leaf, verdict_of, GivesFrom}
use Rattle.certificate_model.specs.Spending.{open_leaves, IsBranch, HasNoBranch, IsDepthFirst, IsSpentNode, AreSpentNodes}
use Rattle.proof_tree.specs.Shape.{IsNode}
use Rattle.branch_bound.specs.Comparing.{IsAsGood}
use Rattle.branch_bound.specs.Searches.{plain_tree, Suits, AllSuit, IsSearch, Ends}
use Rattle.branch_bound.proofs.Comparisons.{as_good-trans, suits}

-- ---- lists of nodes one after the other
pub no_branch-append : (xs ys : List Node) → HasNoBranch xs → HasNoBranch ys → HasNoBranch (xs ++ ys)
no_branch-append [] ys a b = b
no_branch-append (x ∷ xs) ys a b = (a.0, no_branch-append xs ys a.1 b)

pub open_leaves-append : (xs ys : List Node) → open_leaves (xs ++ ys) ≡ open_leaves xs + open_leaves ys
open_leaves-append [] ys = omega arith
open_leaves-append (x ∷ xs) ys = omega (arith, open_leaves-append xs ys)

-- no branch is after an Open leaf: the first list has no Open leaf, or the second has no branch
pub depth_first-append : (xs ys : List Node) → IsDepthFirst xs → IsDepthFirst ys → (open_leaves xs ≡ 0) ⊎ HasNoBranch ys → IsDepthFirst (xs ++ ys)
depth_first-append [] ys a b c = b
depth_first-append (Open ∷ xs) ys a b (inl none) = absurd (omega arith)
depth_first-append (Open ∷ xs) ys a b (inr no_branch) = no_branch-append xs ys a no_branch
depth_first-append (BranchItem i ∷ xs) ys a b (inl none) = depth_first-append xs ys a b (inl (omega arith))
depth_first-append (BranchItem i ∷ xs) ys a b (inr no_branch) = depth_first-append xs ys a b (inr no_branch)
depth_first-append (BranchStimulus i ∷ xs) ys a b (inl none) = depth_first-append xs ys a b (inl (omega arith))
depth_first-append (BranchStimulus i ∷ xs) ys a b (inr no_branch) = depth_first-append xs ys a b (inr no_branch)
depth_first-append (Fix v goal ∷ xs) ys a b (inl none) = depth_first-append xs ys a b (inl (omega arith))
depth_first-append (Fix v goal ∷ xs) ys a b (inr no_branch) = depth_first-append xs ys a b (inr no_branch)
depth_first-append (Bound i ∷ xs) ys a b (inl none) = depth_first-append xs ys a b (inl (omega arith))
depth_first-append (Bound i ∷ xs) ys a b (inr no_branch) = depth_first-append xs ys a b (inr no_branch)
depth_first-append (Ray i ∷ xs) ys a b (inl none) = depth_first-append xs ys a b (inl (omega arith))
depth_first-append (Ray i ∷ xs) ys a b (inr no_branch) = depth_first-append xs ys a b (inr no_branch)
depth_first-append (Count i ∷ xs) ys a b (inl none) = depth_first-append xs ys a b (inl (omega arith))
depth_first-append (Count i ∷ xs) ys a b (inr no_branch) = depth_first-append xs ys a b (inr no_branch)
depth_first-append (Whole ∷ xs) ys a b (inl none) = depth_first-append xs ys a b (inl (omega arith))
depth_first-append (Whole ∷ xs) ys a b (inr no_branch) = depth_first-append xs ys a b (inr no_branch)

branch_is_closed : (node : Node) → IsBranch node → open_leaf node ≡ 0
branch_is_closed (BranchItem i) is = refl
branch_is_closed (BranchStimulus s) is = refl
branch_is_closed (Fix v goal) is = refl
branch_is_closed (Bound v) is = absurd is
branch_is_closed (Ray v) is = absurd is
branch_is_closed (Count r) is = absurd is
branch_is_closed Whole is = absurd is
branch_is_closed Open is = absurd is

branch_depth_first : (node : Node) (nodes : List Node) → IsBranch node → IsDepthFirst nodes → IsDepthFirst (node ∷ nodes)
branch_depth_first (BranchItem i) nodes is h = h
branch_depth_first (BranchStimulus s) nodes is h = h
branch_depth_first (Fix v goal) nodes is h = h
branch_depth_first (Bound v) nodes is h = absurd is
branch_depth_first (Ray v) nodes is h = absurd is
branch_depth_first (Count r) nodes is h = absurd is
branch_depth_first Whole nodes is h = absurd is
branch_depth_first Open nodes is h = absurd is

one_depth_first : (node : Node) → IsDepthFirst (node ∷ [])
one_depth_first (BranchItem i) = tt
one_depth_first (BranchStimulus s) = tt
one_depth_first (Fix v goal) = tt
one_depth_first (Bound v) = tt
one_depth_first (Ray v) = tt
one_depth_first (Count r) = tt
one_depth_first Whole = tt
one_depth_first Open = tt

-- ---- a leaf
pub leaf_search : (P : Problem) (p : Path) (B C : Option Set) (k : ℕ) (node : Node) → Ends P p B C node → IsSearch P p B k C k (node ∷ [])
leaf_search P p B C k node ends =
    record {
      form = ends.form;
      no_worse = ends.no_worse;
      suit = λ X as_good rest paths all. (suits P p C X node ends.form as_good ends.suits, rw ends.leaf all);
      number = omega arith;
      depth_first = one_depth_first node;
      ended = inl ends.not_open;
      no_branch = λ _. (ends.no_branch, tt);
    }

-- ---- a branch and the searches of its sides
module _ (P : Problem) (p l r : Path) (node : Node) (B C D : Option Set) (k m n : ℕ) (left right : List Node)
    (two : below P (plain_tree []) p node ≡ l ∷ r ∷ [])
    (branch : IsBranch node)
    (placed : (X : Option Set) → Suits P X p node)
    (first : IsSearch P l B k C m left)
    (second : IsSearch P r C m D n right)
  where
    both_suit : (X : Option Set) → IsAsGood P D X → (rest : List Node) (paths : List Path) → AllSuit P X rest paths → AllSuit P X ((node ∷ (left ++ right)) ++ rest) (p ∷ paths)
    both_suit X as_good rest paths all =
        let behind = second.suit X as_good rest paths all in
        let whole = first.suit X (as_good-trans P C D X second.form second.no_worse as_good) (right ++ rest) (r ∷ paths) behind in (
          placed X,
          subst (λ (qs : List Path). AllSuit P X ((left ++ right) ++ rest) (qs ++ paths)) (sym two) (subst (λ (ns : List Node). AllSuit P X ns (l ∷ r ∷ paths)) (sym (append_assoc left right rest)) whole),
        )

    both_ended : (open_leaves (node ∷ (left ++ right)) ≡ 0) ⊎ (n ≡ 0)
    both_ended =
        elim second.ended [
          | inr none_left ↦ inr none_left
          | inl no_open ↦
              elim first.ended [
                | inl none ↦ inl (omega (arith, branch_is_closed node branch, open_leaves-append left right))
                | inr none_left ↦ inr (omega (arith, second.number))
              ]
        ]

    pub branch_search : IsSearch P p B (k + 1) D n (node ∷ (left ++ right))
    branch_search =
        record {
          form = second.form;
          no_worse = as_good-trans P B C D first.form first.no_worse second.no_worse;
          suit = both_suit;
          number = omega (arith, first.number, second.number, length-append left right);
          depth_first = branch_depth_first node (left ++ right) branch (depth_first-append left right first.depth_first second.depth_first (elim first.ended [ inl none ↦ inl none | inr none_left ↦ inr (second.no_branch none_left) ]));
          ended = both_ended;
          no_branch = λ e. absurd (omega arith);
        }

-- ---- what a whole search shows
sound_same : (P : Problem) (X : Option Set) (all : List Node) (p : Path) (node : Node) → IsSound P X (plain_tree []) p node → IsSound P X (plain_tree all) p node
sound_same P X all p (BranchItem i) s = s
sound_same P X all p (BranchStimulus t) s = s
sound_same P X all p (Fix v goal) s = s
sound_same P X all p (Bound v) s = s
sound_same P X all p (Ray v) s = s
sound_same P X all p (Count r) s = s
sound_same P X all p Whole s = s
sound_same P X all p Open s = s

spent_same : (P : Problem) (all : List Node) (p : Path) (node : Node) → IsSpentNode P (plain_tree []) p node → IsSpentNode P (plain_tree all) p node
spent_same P all p (BranchItem i) s = s
spent_same P all p (BranchStimulus t) s = s
spent_same P all p (Fix v goal) s = s
spent_same P all p (Bound v) s = s
spent_same P all p (Ray v) s = s
spent_same P all p (Count r) s = s
spent_same P all p Whole s = s
spent_same P all p Open s = s

below_same : (P : Problem) (all : List Node) (p : Path) (node : Node) → below P (plain_tree []) p node ≡ below P (plain_tree all) p node
below_same P all p (BranchItem i) = refl
below_same P all p (BranchStimulus t) = refl
below_same P all p (Fix v goal) = refl
below_same P all p (Bound v) = refl
below_same P all p (Ray v) = refl
below_same P all p (Count r) = refl
below_same P all p Whole = refl
below_same P all p Open = refl

module _ (P : Problem) (X : Option Set) where
  pub all_sound : (all : List Node) (at met : ℕ) (nodes : List Node) (paths : List Path) → AllSuit P X nodes paths → GivesFrom P X (plain_tree all) at met nodes paths (verdict_of X (met + open_leaves nodes))
  all_sound all at met [] [] h = ap (λ (k : ℕ). verdict_of X k) (add-zero met)
  all_sound all at met [] (p ∷ paths) h = absurd h
  all_sound all at met (node ∷ nodes) [] h = absurd h
  all_sound all at met (node ∷ nodes) (p ∷ paths) h =
      let e : met + open_leaf node + open_leaves nodes ≡ met + (open_leaf node + open_leaves nodes) = omega arith in
      let rest = all_sound all (at + 1) (met + open_leaf node) nodes (below P (plain_tree []) p node ++ paths) h.1 in
      let those : GivesFrom P X (plain_tree all) (at + 1) (met + open_leaf node) nodes (below P (plain_tree all) p node ++ paths) (verdict_of X (met + open_leaf node + open_leaves nodes)) = subst (λ (qs : List Path). GivesFrom P X (plain_tree all) (at + 1) (met + open_leaf node) nodes (qs ++ paths) (verdict_of X (met + open_leaf node + open_leaves nodes))) (below_same P all p node) rest in
      inl (
        sound_same P X all p node h.0.sound,
        subst (λ (k : ℕ). GivesFrom P X (plain_tree all) (at + 1) (met + open_leaf node) nodes (below P (plain_tree all) p node ++ paths) (verdict_of X k)) e those,
      )

  pub all_spent : (all nodes : List Node) (paths : List Path) → AllSuit P X nodes paths → AreSpentNodes P (plain_tree all) nodes paths
  all_spent all [] [] h = tt
  all_spent all [] (p ∷ paths) h = absurd h
  all_spent all (node ∷ nodes) [] h = absurd h
  all_spent all (node ∷ nodes) (p ∷ paths) h = (spent_same P all p node h.0.spent, subst (λ (qs : List Path). AreSpentNodes P (plain_tree all) nodes (qs ++ paths)) (below_same P all p node) (all_spent all nodes (below P (plain_tree []) p node ++ paths) h.1))

  pub all_pruned : (all nodes : List Node) (paths : List Path) → AllSuit P X nodes paths → ArePruned P (plain_tree all) nodes paths
  all_pruned all [] [] h = tt
  all_pruned all [] (p ∷ paths) h = absurd h
  all_pruned all (node ∷ nodes) [] h = absurd h
  all_pruned all (node ∷ nodes) (p ∷ paths) h = (h.0.pruned, subst (λ (qs : List Path). ArePruned P (plain_tree all) nodes (qs ++ paths)) (below_same P all p node) (all_pruned all nodes (below P (plain_tree []) p node ++ paths) h.1))

  pub all_trees : (nodes : List Node) (paths : List Path) → AllSuit P X nodes paths → AreTrees (length paths) nodes
  all_trees [] [] h = tt
  all_trees [] (p ∷ paths) h = absurd h
  all_trees (node ∷ nodes) [] h = absurd h
  all_trees (BranchItem i ∷ nodes) (p ∷ paths) h = all_trees nodes (below P (plain_tree []) p (BranchItem i) ++ paths) h.1
  all_trees (BranchStimulus s ∷ nodes) (p ∷ paths) h = all_trees nodes (below P (plain_tree []) p (BranchStimulus s) ++ paths) h.1
  all_trees (Fix v goal ∷ nodes) (p ∷ paths) h = all_trees nodes (below P (plain_tree []) p (Fix v goal) ++ paths) h.1
  all_trees (Bound v ∷ nodes) (p ∷ paths) h = all_trees nodes paths h.1
  all_trees (Ray v ∷ nodes) (p ∷ paths) h = all_trees nodes paths h.1
  all_trees (Count r ∷ nodes) (p ∷ paths) h = all_trees nodes paths h.1
  all_trees (Whole ∷ nodes) (p ∷ paths) h = all_trees nodes paths h.1
  all_trees (Open ∷ nodes) (p ∷ paths) h = all_trees nodes paths h.1

  pub all_numbers : (nodes : List Node) (paths : List Path) → AllSuit P X nodes paths → All IsNode nodes
  all_numbers [] [] h = All-nil IsNode
  all_numbers [] (p ∷ paths) h = absurd h
  all_numbers (node ∷ nodes) [] h = absurd h
  all_numbers (node ∷ nodes) (p ∷ paths) h = All-cons IsNode node nodes h.0.number (all_numbers nodes (below P (plain_tree []) p node ++ paths) h.1)
