-- The one spelling of each proof tree in bytes; numbers are big-endian.
use Rattle.std.specs.Prelude.{◌≡◌, ℕ, List, [], ◌∷◌, ◌++◌, length}
use Rattle.std.specs.List.{flat_map}
use Rattle.std.specs.Int.{w16, w32, to_be_bytes}
use Rattle.certificate_model.specs.declared.node.Node.{Node}
use Rattle.certificate_model.specs.declared.node.Node.TheVariants.{BranchItem, BranchStimulus, Bound, Ray, Count, Whole, Open, Fix}
use Rattle.certificate_model.specs.Relaxed.{Multipliers}
use Rattle.certificate_model.specs.ProofTrees.{ProofTree}

-- a side in two bytes, and its multiplier in four
abbrev pub pair_bytes : ℕ × ℕ → List ℕ
pair_bytes pair = to_be_bytes w16 pair.0 ++ to_be_bytes w32 pair.1

-- the number of pairs in two bytes, and the pairs
abbrev pub vector_bytes : Multipliers → List ℕ
vector_bytes v = to_be_bytes w16 (length v) ++ flat_map pair_bytes v

-- the kind of the node in one byte, and its number: an item in two bytes, another number in one; of
-- a Fix the vector in one byte, and the goal in four
abbrev pub node_bytes : Node → List ℕ
node_bytes (BranchItem i) = 1 ∷ to_be_bytes w16 i
node_bytes (BranchStimulus s) = 2 ∷ s ∷ []
node_bytes (Bound v) = 3 ∷ v ∷ []
node_bytes (Ray v) = 4 ∷ v ∷ []
node_bytes (Count r) = 5 ∷ r ∷ []
node_bytes Whole = 6 ∷ []
node_bytes Open = 7 ∷ []
node_bytes (Fix v goal) = 8 ∷ v ∷ to_be_bytes w32 goal

-- the number of vectors in one byte, the vectors, and the nodes in preorder
unfoldable pub bytes_of : ProofTree → List ℕ
bytes_of T = length T.vectors ∷ (flat_map vector_bytes T.vectors ++ flat_map node_bytes T.nodes)

-- the spelling of the tree, whatever follows it
abbrev pub BeginsWith : List ℕ → ProofTree → Type 0
BeginsWith bytes T = (rest : List ℕ) × (bytes ≡ bytes_of T ++ rest)
