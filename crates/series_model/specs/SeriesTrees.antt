-- The shape of series trees.
use Rattle.std.specs.Prelude.{ℕ, zero, suc, ◌+◌, ◌<◌, ◌≤◌, Bool, ◌||◌, nat_le, List, [], ◌∷◌, length, get_or, IsTrue, All, sum_by}
use Rattle.std.specs.List.{list_any, list_all}
use Rattle.certificate_model.specs.Relaxed.{Multipliers}
use Rattle.series_model.specs.declared.node.SeriesNode.{SeriesNode}
use Rattle.series_model.specs.declared.node.SeriesNode.TheVariants.{Branch, Use, Twin}

-- vectors of multipliers, and nodes in preorder
pub record Certificate : Type 0 where
  pub vectors : List Multipliers
  pub nodes : List SeriesNode

abbrev pub vector_at : Certificate → ℕ → Multipliers
vector_at T v = get_or T.vectors v []

-- sides strictly ascending from a number on, and multipliers from 1 to 2 ^ 32 - 1
abbrev pub Ascends : ℕ → Multipliers → Type 0
Ascends from [] = Unit {0}
Ascends from (pair ∷ pairs) = (from ≤ pair.0) × (0 < pair.1) × (pair.1 ≤ 4294967295) × Ascends (pair.0 + 1) pairs

-- the vector names a side of the pool
abbrev pub names_pool : Multipliers → Bool
names_pool v = list_any (λ pair. nat_le 2304 pair.0) v

-- a vector that names none has multipliers of at most 2 ^ 24
abbrev pub is_moderate : Multipliers → Bool
is_moderate v = names_pool v || list_all (λ pair. nat_le pair.1 16777216) v

-- the vectors of a tree: at most 255, each of at most 2,304 pairs with sides below 2,315, and at
-- most 12,288 pairs in all
pub record AreVectors (vs : List Multipliers) : Type 0 where
  pub few : length vs ≤ 255
  pub ascending : (v : ℕ) → v < length vs → Ascends 0 (get_or vs v [])
  pub low_sides : (v : ℕ) → v < length vs → All (λ pair. pair.0 < 2315) (get_or vs v [])
  pub moderate : (v : ℕ) → v < length vs → IsTrue (is_moderate (get_or vs v []))
  pub short : (v : ℕ) → v < length vs → length (get_or vs v []) ≤ 2304
  pub few_pairs : sum_by length vs ≤ 12288

-- how many subtrees follow a node
abbrev pub children : SeriesNode → ℕ
children (Branch f i) = 2
children (Use i) = 2
children (Twin f i) = 2
children node = 0

-- the nodes in preorder are so many whole binary trees
abbrev pub AreTrees : ℕ → List SeriesNode → Type 0
AreTrees zero [] = Unit {0}
AreTrees (suc wait) [] = ⊥
AreTrees zero (node ∷ nodes) = ⊥
AreTrees (suc wait) (node ∷ nodes) = AreTrees (wait + children node) nodes

-- such vectors, and at most 4,095 nodes, which are one tree
pub record IsCertificate (T : Certificate) : Type 0 where
  pub vectors : AreVectors T.vectors
  pub few_nodes : length T.nodes ≤ 4095
  pub one_tree : AreTrees 1 T.nodes
