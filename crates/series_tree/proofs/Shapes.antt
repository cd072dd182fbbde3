-- Steps along the nodes of trees in preorder.
use Rattle.std.proofs.Common.{◌≡◌, ℕ, zero, suc, ◌+◌, ◌-◌, ◌<◌, ◌≤◌, List, ◌∷◌, length, get_or, drop, sym, subst, arith, add-one, refl}
use Rattle.std.proofs.Math.Seq.{drop-cons}
use Rattle.series_model.specs.declared.node.SeriesNode.{SeriesNode}
use Rattle.series_model.specs.declared.node.SeriesNode.TheVariants.{Branch, Bound, Ray, Count, Whole, Open, Use, Twin}
use Rattle.series_model.specs.SeriesTrees.{AreTrees}
use Rattle.series_model.specs.SeriesTrees.{children}

-- each follows from the other
abbrev pub BothWays : Type 0 → Type 0 → Type 0
BothWays P Q = (P → Q) × (Q → P)

-- after a node its subtrees wait in its place
pub tree_step : (wait : ℕ) (node : SeriesNode) (nodes : List SeriesNode) → BothWays (AreTrees (suc wait) (node ∷ nodes)) (AreTrees (suc wait - 1 + children node) nodes)
tree_step wait node nodes =
    let e : wait + children node ≡ suc wait - 1 + children node = omega arith in
    (subst (λ (w : ℕ). AreTrees w nodes) e, subst (λ (w : ℕ). AreTrees w nodes) (sym e))

drop_here : (i : ℕ) (nodes : List SeriesNode) (d : SeriesNode) → i < length nodes → drop i nodes ≡ get_or nodes i d ∷ drop (i + 1) nodes
drop_here i nodes d lt = rw (add-one, drop-cons nodes i d lt) refl

-- the same at a place of the list
pub tree_step_at : (wait i : ℕ) (nodes : List SeriesNode) (d : SeriesNode) → i < length nodes → (wait ≡ 0 → ⊥)
    → BothWays (AreTrees wait (drop i nodes)) (AreTrees (wait - 1 + children (get_or nodes i d)) (drop (i + 1) nodes))
tree_step_at zero i nodes d lt some = absurd (some refl)
tree_step_at (suc wait) i nodes d lt some =
    subst (λ (xs : List SeriesNode). BothWays (AreTrees (suc wait) xs) (AreTrees (suc wait - 1 + children (get_or nodes i d)) (drop (i + 1) nodes))) (sym (drop_here i nodes d lt)) (tree_step wait (get_or nodes i d) (drop (i + 1) nodes))

-- where no tree waits, there is no node
pub none_waits : (wait i : ℕ) (nodes : List SeriesNode) → i < length nodes → wait ≡ 0 → AreTrees wait (drop i nodes) → ⊥
none_waits zero i nodes lt none h = let d : SeriesNode = Open in subst (λ (xs : List SeriesNode). AreTrees 0 xs) (drop_here i nodes d lt) h
none_waits (suc wait) i nodes lt none h = absurd cc

pub few_children : (node : SeriesNode) → children node ≤ 2
few_children (Branch f i) = omega arith
few_children (Use i) = omega arith
few_children (Twin f i) = omega arith
few_children (Bound v) = omega arith
few_children (Ray v) = omega arith
few_children (Count f r) = omega arith
few_children Whole = omega arith
few_children Open = omega arith
