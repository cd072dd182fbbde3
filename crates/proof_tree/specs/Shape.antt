-- Which proof trees have a spelling.
use Rattle.std.specs.Prelude.{ℕ, ◌<◌, ◌≤◌, All}
use Rattle.certificate_model.specs.declared.node.Node.{Node}
use Rattle.certificate_model.specs.declared.node.Node.TheVariants.{BranchItem, BranchStimulus, Bound, Ray, Count, Fix}
use Rattle.certificate_model.specs.ProofTrees.{ProofTree, IsProofTree}

-- the number of a node is one that an item, a stimulus, a vector or a row may have
abbrev pub IsNode : Node → Type 0
IsNode (BranchItem i) = i < 512
IsNode (BranchStimulus s) = (0 < s) × (s ≤ 64)
IsNode (Bound v) = v < 256
IsNode (Ray v) = v < 256
IsNode (Count r) = r ≤ 192
IsNode (Fix v goal) = (v < 256) × (goal < 4294967296)
IsNode node = Unit {0}

-- a proof tree whose nodes have such numbers
pub record IsTree (T : ProofTree) : Type 0 where
  pub shape : IsProofTree T
  pub numbers : All IsNode T.nodes

-- how many subtrees follow a node
abbrev pub children : Node → ℕ
children (BranchItem i) = 2
children (BranchStimulus s) = 2
children (Fix v goal) = 1
children node = 0
