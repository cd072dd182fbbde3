-- Steps along the nodes of trees in preorder.
use Rattle.std.proofs.Common.{◌≡◌, ℕ, zero, suc, ◌+◌, ◌-◌, ◌<◌, ◌≤◌, List, ◌∷◌, length, get_or, drop, sym, subst, arith, add-one, refl}
use Rattle.std.proofs.Math.Seq.{drop-cons}
use Rattle.certificate_model.specs.declared.node.Node.{Node}
use Rattle.certificate_model.specs.declared.node.Node.TheVariants.{BranchItem, BranchStimulus, Bound, Ray, Count, Whole, Open, Fix}
use Rattle.certificate_model.specs.ProofTrees.{AreTrees}
use Rattle.proof_tree.specs.Shape.{children}

-- each follows from the other
abbrev pub BothWays : Type 0 → Type 0 → Type 0
BothWays P Q = (P → Q) × (Q → P)

waits : (a b : ℕ) (nodes : List Node) → a ≡ b → BothWays (AreTrees a nodes) (AreTrees b nodes)
waits a b nodes e = (subst (λ (w : ℕ). AreTrees w nodes) e, subst (λ (w : ℕ). AreTrees w nodes) (sym e))

-- after a node its subtrees wait in its place
pub tree_step : (wait : ℕ) (node : Node) (nodes : List Node) → BothWays (AreTrees (suc wait) (node ∷ nodes)) (AreTrees (suc wait - 1 + children node) nodes)
tree_step wait (BranchItem i) nodes = waits (suc (suc wait)) (suc wait - 1 + 2) nodes (omega arith)
tree_step wait (BranchStimulus s) nodes = waits (suc (suc wait)) (suc wait - 1 + 2) nodes (omega arith)
tree_step wait (Bound v) nodes = waits wait (suc wait - 1 + 0) nodes (omega arith)
tree_step wait (Ray v) nodes = waits wait (suc wait - 1 + 0) nodes (omega arith)
tree_step wait (Count r) nodes = waits wait (suc wait - 1 + 0) nodes (omega arith)
tree_step wait Whole nodes = waits wait (suc wait - 1 + 0) nodes (omega arith)
tree_step wait Open nodes = waits wait (suc wait - 1 + 0) nodes (omega arith)
tree_step wait (Fix v goal) nodes = waits (suc wait) (suc wait - 1 + 1) nodes (omega arith)

drop_here : (i : ℕ) (nodes : List Node) (d : Node) → i < length nodes → drop i nodes ≡ get_or nodes i d ∷ drop (i + 1) nodes
drop_here i nodes d lt = rw (add-one, drop-cons nodes i d lt) refl

-- the same at a place of the list
pub tree_step_at : (wait i : ℕ) (nodes : List Node) (d : Node) → i < length nodes → (wait ≡ 0 → ⊥)
    → BothWays (AreTrees wait (drop i nodes)) (AreTrees (wait - 1 + children (get_or nodes i d)) (drop (i + 1) nodes))
tree_step_at zero i nodes d lt some = absurd (some refl)
tree_step_at (suc wait) i nodes d lt some =
    subst (λ (xs : List Node). BothWays (AreTrees (suc wait) xs) (AreTrees (suc wait - 1 + children (get_or nodes i d)) (drop (i + 1) nodes))) (sym (drop_here i nodes d lt)) (tree_step wait (get_or nodes i d) (drop (i + 1) nodes))

-- where no tree waits, there is no node
pub none_waits : (wait i : ℕ) (nodes : List Node) → i < length nodes → wait ≡ 0 → AreTrees wait (drop i nodes) → ⊥
none_waits zero i nodes lt none h = let d : Node = Open in subst (λ (xs : List Node). AreTrees 0 xs) (drop_here i nodes d lt) h
none_waits (suc wait) i nodes lt none h = absurd cc

pub few_children : (node : Node) → children node ≤ 2
few_children (BranchItem i) = omega arith
few_children (BranchStimulus s) = omega arith
few_children (Bound v) = omega arith
few_children (Ray v) = omega arith
few_children (Count r) = omega arith
few_children Whole = omega arith
few_children Open = omega arith
few_children (Fix v goal) = omega arith
