-- Which series trees have a spelling, and what their nodes are.
use Rattle.std.specs.Prelude.{ℕ, ◌+◌, ◌<◌, ◌≤◌, List, [], ◌∷◌, All}
use Rattle.series_model.specs.declared.node.SeriesNode.{SeriesNode}
use Rattle.series_model.specs.declared.node.SeriesNode.TheVariants.{Branch, Bound, Ray, Count, Use, Twin}
use Rattle.series_model.specs.SeriesTrees.{Certificate, IsCertificate}
use Rattle.series_model.specs.SeriesVerdicts.{open_leaf}

-- the number of a node is one that a form, an item, a vector or a row may have
abbrev pub IsNode : SeriesNode → Type 0
IsNode (Branch f i) = (f < 4) × (i < 512)
IsNode (Bound v) = v < 256
IsNode (Ray v) = v < 256
IsNode (Count f r) = (f < 4) × (r ≤ 192)
IsNode (Use i) = i < 512
IsNode (Twin f i) = (f < 4) × (i < 512)
IsNode node = Unit {0}

-- a certificate whose nodes have such numbers
pub record IsTree (T : Certificate) : Type 0 where
  pub shape : IsCertificate T
  pub numbers : All IsNode T.nodes

-- a branch has two subtrees
abbrev pub IsBranch : SeriesNode → Type 0
IsBranch (Branch f i) = Unit {0}
IsBranch (Use i) = Unit {0}
IsBranch (Twin f i) = Unit {0}
IsBranch node = ⊥

-- how many Open leaves a list of nodes has
abbrev pub open_leaves : List SeriesNode → ℕ
open_leaves [] = 0
open_leaves (node ∷ nodes) = open_leaf node + open_leaves nodes
