-- What the fallback search did on a path: nodes in preorder, and the best form known.
use Rattle.std.specs.Prelude.{◌≡◌, ℕ, ◌+◌, ◌*◌, ◌⊎◌, List, [], ◌∷◌, ◌++◌, length, IsTrue, Bool, Option, Some, None}
use Rattle.bank_tables.specs.Items.{Set}
use Rattle.certificate_model.specs.declared.node.Node.{Node}
use Rattle.certificate_model.specs.declared.node.Node.TheVariants.{BranchItem, BranchStimulus, Count}
use Rattle.form_model.specs.Problem.{Problem}
use Rattle.certificate_model.specs.Paths.{Path, is_free, with_item, with_stimulus}
use Rattle.certificate_model.specs.Counting.{IsFirstImpossible}
use Rattle.certificate_model.specs.ProofTrees.{ProofTree}
use Rattle.certificate_model.specs.Verdicts.{IsStimulusBranch, IsFormOrNone, IsSound, below, only_candidate}
use Rattle.certificate_model.specs.Spending.{open_leaves, IsBranch, HasNoBranch, IsDepthFirst, IsSpentNode, PlainBoundExceeds, IsUnresolved}
use Rattle.proof_tree.specs.Shape.{IsNode}
use Rattle.branch_bound.specs.Comparing.{IsAsGood}

-- the tree of some nodes that has no vector but the empty one
abbrev pub plain_tree : List Node → ProofTree
plain_tree nodes = record { vectors = [] ∷ []; nodes = nodes }

-- the node suits the path, with the form X or none: it is sound, as in a tree that spends its
-- budget, and where a row is impossible by counting the Count leaf of the lowest one
pub record Suits (P : Problem) (X : Option Set) (p : Path) (node : Node) : Type 0 where
  pub sound : IsSound P X (plain_tree []) p node
  pub spent : IsSpentNode P (plain_tree []) p node
  pub pruned : (r : ℕ) → IsFirstImpossible P p (Some r) → node ≡ Count r
  pub number : IsNode node

-- so it is with each of the nodes in preorder, one subtree for each waiting path
abbrev pub AllSuit : Problem → Option Set → List Node → List Path → Type 0
AllSuit P X [] [] = Unit {0}
AllSuit P X [] (p ∷ paths) = ⊥
AllSuit P X (node ∷ nodes) [] = ⊥
AllSuit P X (node ∷ nodes) (p ∷ paths) = Suits P X p node × AllSuit P X nodes (below P (plain_tree []) p node ++ paths)

-- a search through the path, with the form B or none and k branches left, made these nodes, and
-- left the form or none C and m branches
pub record IsSearch (P : Problem) (p : Path) (B : Option Set) (k : ℕ) (C : Option Set) (m : ℕ) (nodes : List Node) : Type 0 where
  pub form : IsFormOrNone P C
  pub no_worse : IsAsGood P B C
  pub suit : (X : Option Set) → IsAsGood P C X → (rest : List Node) (paths : List Path) → AllSuit P X rest paths → AllSuit P X (nodes ++ rest) (p ∷ paths)
  pub number : length nodes + 2 * m ≡ 2 * k + 1
  pub depth_first : IsDepthFirst nodes
  pub ended : (open_leaves nodes ≡ 0) ⊎ (m ≡ 0)
  pub no_branch : k ≡ 0 → HasNoBranch nodes

-- nodes were added to those before by such a search
pub record Adds (P : Problem) (p : Path) (B : Option Set) (k : ℕ) (before : List Node) (C : Option Set) (m : ℕ) (after : List Node) : Type 0 where
  pub nodes : List Node
  pub added : after ≡ before ++ nodes
  pub search : IsSearch P p B k C m nodes

-- where there is a form, the plain bound exceeds it
abbrev pub ExceedsForm : Problem → Path → Option Set → Type 0
ExceedsForm P p None = Unit {0}
ExceedsForm P p (Some X) = PlainBoundExceeds P p X

-- the leaf ends the path, with the form C or none; or none does, and the form or none is as before
pub record Ends (P : Problem) (p : Path) (B C : Option Set) (node : Node) : Type 0 where
  pub leaf : below P (plain_tree []) p node ≡ []
  pub no_branch : IsBranch node → ⊥
  pub not_open : open_leaves (node ∷ []) ≡ 0
  pub form : IsFormOrNone P C
  pub no_worse : IsAsGood P B C
  pub suits : Suits P C p node

pub record GoesOn (P : Problem) (p : Path) (B C : Option Set) : Type 0 where
  pub same : C ≡ B
  pub unresolved : IsUnresolved P p
  pub several : only_candidate P p ≡ None

abbrev pub IsLeafOrNone : Problem → Path → Option Set → Option Set → Option Node → Type 0
IsLeafOrNone P p B C (Some node) = Ends P p B C node
IsLeafOrNone P p B C None = GoesOn P p B C

-- a branch on a free item or an open stimulus of the path
abbrev pub IsBranchOn : Problem → Path → Node → Type 0
IsBranchOn P p (BranchItem i) = IsTrue (is_free P p i)
IsBranchOn P p (BranchStimulus s) = IsStimulusBranch P p s
IsBranchOn P p node = ⊥

-- one side of a branch: with the item or stimulus, or without it
abbrev pub side_of : Problem → Path → Node → Bool → Path
side_of P p (BranchItem i) side = with_item p i side
side_of P p (BranchStimulus s) side = with_stimulus P p s side
side_of P p node side = p
