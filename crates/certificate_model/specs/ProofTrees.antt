-- The shape of proof trees.
use Rattle.std.specs.Prelude.{ℕ, zero, suc, ◌+◌, ◌<◌, ◌≤◌, List, [], ◌∷◌, length, get_or, All, sum_by}
use Rattle.certificate_model.specs.declared.node.Node.{Node}
use Rattle.certificate_model.specs.declared.node.Node.TheVariants.{BranchItem, BranchStimulus, Fix}
use Rattle.certificate_model.specs.Relaxed.{Multipliers}

-- vectors of multipliers, and nodes in preorder
pub record ProofTree : Type 0 where
  pub vectors : List Multipliers
  pub nodes : List Node

abbrev pub vector_at : ProofTree → ℕ → Multipliers
vector_at T v = get_or T.vectors v []

-- sides strictly ascending from a number on, and multipliers from 1 to 2 ^ 24
abbrev pub IsVector : ℕ → Multipliers → Type 0
IsVector from [] = Unit {0}
IsVector from (pair ∷ pairs) =
    (from ≤ pair.0) × (0 < pair.1) × (pair.1 ≤ 16777216) × IsVector (pair.0 + 1) pairs

-- the nodes in preorder are so many whole binary trees
abbrev pub AreTrees : ℕ → List Node → Type 0
AreTrees zero [] = Unit {0}
AreTrees (suc wait) [] = ⊥
AreTrees zero (node ∷ nodes) = ⊥
AreTrees (suc wait) (BranchItem i ∷ nodes) = AreTrees (suc (suc wait)) nodes
AreTrees (suc wait) (BranchStimulus s ∷ nodes) = AreTrees (suc (suc wait)) nodes
AreTrees (suc wait) (Fix v goal ∷ nodes) = AreTrees (suc wait) nodes
AreTrees (suc wait) (node ∷ nodes) = AreTrees wait nodes

-- the vectors of a proof tree: at most 255, each of at most 384 pairs with sides below 386, and at
-- most 12,288 pairs in all
pub record AreVectors (vs : List Multipliers) : Type 0 where
  pub few : length vs ≤ 255
  pub ascending : (v : ℕ) → v < length vs → IsVector 0 (get_or vs v [])
  pub low_sides : (v : ℕ) → v < length vs → All (λ pair. pair.0 < 386) (get_or vs v [])
  pub short : (v : ℕ) → v < length vs → length (get_or vs v []) ≤ 384
  pub few_pairs : sum_by length vs ≤ 12288

-- such vectors, and at most 4,095 nodes, which are one tree (that each node's number is in range is
-- a matter of the tree's bytes)
pub record IsProofTree (T : ProofTree) : Type 0 where
  pub vectors : AreVectors T.vectors
  pub few_nodes : length T.nodes ≤ 4095
  pub one_tree : AreTrees 1 T.nodes
