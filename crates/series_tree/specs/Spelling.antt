-- The one spelling of each series tree in bytes; numbers are big-endian.
use Rattle.std.specs.Prelude.{◌≡◌, ℕ, List, [], ◌∷◌, ◌++◌, length}
use Rattle.std.specs.List.{flat_map}
use Rattle.std.specs.Int.{w16, to_be_bytes}
use Rattle.proof_tree.specs.Spelling.{vector_bytes}
use Rattle.series_model.specs.declared.node.SeriesNode.{SeriesNode}
use Rattle.series_model.specs.declared.node.SeriesNode.TheVariants.{Branch, Bound, Ray, Count, Whole, Open, Use, Twin}
use Rattle.series_model.specs.SeriesTrees.{Certificate}

-- the kind of the node in one byte, and its numbers: an item in two bytes, another number in one
abbrev pub node_bytes : SeriesNode → List ℕ
node_bytes (Branch f i) = 1 ∷ f ∷ to_be_bytes w16 i
node_bytes (Bound v) = 2 ∷ v ∷ []
node_bytes (Ray v) = 3 ∷ v ∷ []
node_bytes (Count f r) = 4 ∷ f ∷ r ∷ []
node_bytes Whole = 5 ∷ []
node_bytes Open = 6 ∷ []
node_bytes (Use i) = 7 ∷ to_be_bytes w16 i
node_bytes (Twin f i) = 8 ∷ f ∷ to_be_bytes w16 i

-- the number of vectors in one byte, the vectors as a proof tree has them, and the nodes in
-- preorder
unfoldable pub bytes_of : Certificate → List ℕ
bytes_of T = length T.vectors ∷ (flat_map vector_bytes T.vectors ++ flat_map node_bytes T.nodes)

-- the spelling of the tree, whatever follows it
abbrev pub BeginsWith : List ℕ → Certificate → Type 0
BeginsWith bytes T = (rest : List ℕ) × (bytes ≡ bytes_of T ++ rest)
