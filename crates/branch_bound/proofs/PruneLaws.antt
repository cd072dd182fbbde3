-- A walk through a pruned tree.
use Rattle.std.proofs.Common.{◌≡◌, ℕ, suc, ◌+◌, ◌<◌, List, [], ◌∷◌, length, drop, Option, Some, None, true, refl, sym, ap, ◌∙◌, arith}
use Rattle.std.specs.Prelude.{is_some}
use Rattle.std.proofs.Math.Bool.{true≢false}
use Rattle.certificate_model.specs.declared.node.Node.{Node}
use Rattle.certificate_model.specs.declared.node.Node.TheVariants.{BranchItem, BranchStimulus, Bound, Ray, Count, Whole, Open, Fix}
use Rattle.certificate_model.specs.Counting.{IsFirstImpossible}
use Rattle.form_model.specs.Problem.{Problem}
use Rattle.certificate_model.specs.Paths.{Path, root}
use Rattle.certificate_model.specs.ProofTrees.{ProofTree, AreTrees}
use Rattle.certificate_model.specs.Pruning.{ArePruned}
use Rattle.certificate_model.specs.Spending.{IsBranch}
use Rattle.certificate_model.specs.Verdicts.{below}
use Rattle.branch_bound.specs.Prunings.{IsCountOf, PrunesTo, IsPruning}
use Rattle.branch_bound.specs.Searches.{IsBranchOn}
use Rattle.branch_bound.proofs.LeafLaws.{one_first}

-- what is asked of a node, where the lowest impossible row is known
pub count_where : (P : Problem) (p : Path) (row : Option ℕ) (node : Node) → IsFirstImpossible P p row → IsCountOf row node → (r : ℕ) → IsFirstImpossible P p (Some r) → node ≡ Count r
count_where P p None node none is r first = absurd (true≢false (sym first.0 ∙ none r))
count_where P p (Some q) node lowest is r first = is ∙ ap (λ (k : ℕ). Count k) (one_first P p q r lowest first)

-- a branch on something makes two trees of one
pub branch_makes : (P : Problem) (p : Path) (node : Node) (nodes : List Node) (wait : ℕ) → IsBranchOn P p node → AreTrees (suc wait) (node ∷ nodes) → AreTrees (suc (suc wait)) nodes
branch_makes P p (BranchItem i) nodes wait is h = h
branch_makes P p (BranchStimulus s) nodes wait is h = h
branch_makes P p (Fix v goal) nodes wait is h = absurd is
branch_makes P p (Bound v) nodes wait is h = absurd is
branch_makes P p (Ray v) nodes wait is h = absurd is
branch_makes P p (Count r) nodes wait is h = absurd is
branch_makes P p Whole nodes wait is h = absurd is
branch_makes P p Open nodes wait is h = absurd is

-- and another node makes none
pub leaf_makes : (node : Node) (nodes : List Node) (wait : ℕ) → (IsBranch node → ⊥) → AreTrees (suc wait) (node ∷ nodes) → AreTrees wait nodes
leaf_makes (BranchItem i) nodes wait not h = absurd (not tt)
leaf_makes (BranchStimulus s) nodes wait not h = absurd (not tt)
leaf_makes (Fix v goal) nodes wait not h = absurd (not tt)
leaf_makes (Bound v) nodes wait not h = h
leaf_makes (Ray v) nodes wait not h = h
leaf_makes (Count r) nodes wait not h = h
leaf_makes Whole nodes wait not h = h
leaf_makes Open nodes wait not h = h

none_below : (P : Problem) (T : ProofTree) (p : Path) (node : Node) → (IsBranch node → ⊥) → below P T p node ≡ []
none_below P T p (BranchItem i) not = absurd (not tt)
none_below P T p (BranchStimulus s) not = absurd (not tt)
none_below P T p (Fix v goal) not = absurd (not tt)
none_below P T p (Bound v) not = refl
none_below P T p (Ray v) not = refl
none_below P T p (Count r) not = refl
none_below P T p Whole not = refl
none_below P T p Open not = refl

module _ (P : Problem) (T : ProofTree) (at : ℕ) (p : Path) (node : Node)
    (here : drop at T.nodes ≡ node ∷ drop (at + 1) T.nodes)
    (counted : (r : ℕ) → IsFirstImpossible P p (Some r) → node ≡ Count r)
  where
    pub leaf_prunes : at < length T.nodes → (IsBranch node → ⊥) → PrunesTo P T at p (at + 1)
    leaf_prunes within not =
        record {
          on = omega arith;
          within = omega arith;
          makes = λ wait h. leaf_makes node (drop (at + 1) T.nodes) wait not (rw here at h);
          pruned = λ paths rest. rw here (counted, rw (none_below P T p node not) rest);
        }

    pub branch_prunes : (left right : Path) (next end : ℕ) → below P T p node ≡ left ∷ right ∷ [] → IsBranchOn P p node → PrunesTo P T (at + 1) left next → PrunesTo P T next right end → PrunesTo P T at p end
    branch_prunes left right next end two branch first second =
        record {
          on = omega (arith, first.on, second.on);
          within = second.within;
          makes = λ wait h. second.makes wait (first.makes (suc wait) (branch_makes P p node (drop (at + 1) T.nodes) wait branch (rw here at h)));
          pruned = λ paths rest. rw here (counted, rw two (first.pruned (right ∷ paths) (second.pruned paths rest)));
        }

    pub branch_pruning : (left right : Path) (next : ℕ) (end : Option ℕ) → below P T p node ≡ left ∷ right ∷ [] → IsBranchOn P p node → PrunesTo P T (at + 1) left next → IsPruning P T next right end → IsPruning P T at p end
    branch_pruning left right next None two branch first second = tt
    branch_pruning left right next (Some end) two branch first second = branch_prunes left right next end two branch first second

-- the whole tree
no_tree : (xs : List Node) → AreTrees 0 xs → xs ≡ []
no_tree [] h = refl
no_tree (node ∷ xs) h = absurd h

pub all_pruned_where : (P : Problem) (T : ProofTree) (result : Option ℕ) → is_some result ≡ true → AreTrees 1 T.nodes → IsPruning P T 0 (root P) result → ArePruned P T T.nodes (root P ∷ [])
all_pruned_where P T None found tree prunes = absurd (true≢false (sym found))
all_pruned_where P T (Some next) found tree prunes =
    let ended : drop next T.nodes ≡ [] = no_tree (drop next T.nodes) (prunes.makes 0 tree) in
    prunes.pruned [] (rw ended tt)
