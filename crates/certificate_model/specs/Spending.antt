-- A tree that spends its node budget.
use Rattle.std.specs.Prelude.{◌≡◌, ℕ, ◌+◌, ◌*◌, ◌<◌, List, [], ◌∷◌, ◌++◌, length, false, IsTrue, IsFalse, ℤ, pos, ◌<ℤ◌, Option, Some, None}
use Rattle.bank_tables.specs.Items.{Set}
use Rattle.certificate_model.specs.declared.node.Node.{Node}
use Rattle.certificate_model.specs.declared.node.Node.TheVariants.{BranchItem, BranchStimulus, Open, Fix}
use Rattle.form_model.specs.Problem.{Problem}
use Rattle.form_model.specs.Forms.{Form, objective}
use Rattle.certificate_model.specs.Paths.{Path, root, is_free}
use Rattle.certificate_model.specs.Fixing.{settles}
use Rattle.certificate_model.specs.Relaxed.{IsRelaxedMaximum}
use Rattle.certificate_model.specs.Counting.{is_impossible}
use Rattle.certificate_model.specs.ProofTrees.{ProofTree, vector_at}
use Rattle.certificate_model.specs.Verdicts.{IsStimulusBranch, NamesOnlySides, below, open_leaf}

-- how many Open leaves a list of nodes has
abbrev pub open_leaves : List Node → ℕ
open_leaves [] = 0
open_leaves (node ∷ nodes) = open_leaf node + open_leaves nodes

-- the nodes with paths below them
abbrev pub IsBranch : Node → Type 0
IsBranch (BranchItem i) = Unit {0}
IsBranch (BranchStimulus s) = Unit {0}
IsBranch (Fix v goal) = Unit {0}
IsBranch node = ⊥

abbrev pub HasNoBranch : List Node → Type 0
HasNoBranch [] = Unit {0}
HasNoBranch (node ∷ nodes) = (IsBranch node → ⊥) × HasNoBranch nodes

-- no branch is after the first Open leaf: the tree was searched depth first
abbrev pub IsDepthFirst : List Node → Type 0
IsDepthFirst [] = Unit {0}
IsDepthFirst (Open ∷ nodes) = HasNoBranch nodes
IsDepthFirst (node ∷ nodes) = IsDepthFirst nodes

-- the plain bound, which is the relaxed maximum with no multipliers, leaves room for a form better
-- than X
pub record PlainBoundExceeds (P : Problem) (p : Path) (X : Set) : Type 0 where
  pub maximum : ℤ
  pub is_maximum : IsRelaxedMaximum P p [] false maximum
  pub above : pos (256 * objective P X + 255) <ℤ maximum

-- where the problem has a start that is a form, the plain bound exceeds it
abbrev pub ExceedsStart : Problem → Path → Option Set → Type 0
ExceedsStart P p None = Unit {0}
ExceedsStart P p (Some X) = Form P X → PlainBoundExceeds P p X

-- neither counting nor the plain bound settles the path
pub record IsUnresolved (P : Problem) (p : Path) : Type 0 where
  pub possible : (r : ℕ) → IsFalse (is_impossible P p r)
  pub exceeds : ExceedsStart P p P.start

-- a branch is on what is free or open, and a Fix settles something by a vector of the tree; at
-- these and at an Open leaf the path is unresolved
abbrev pub IsSpentNode : Problem → ProofTree → Path → Node → Type 0
IsSpentNode P T p (BranchItem i) = IsTrue (is_free P p i) × IsUnresolved P p
IsSpentNode P T p (BranchStimulus s) = IsStimulusBranch P p s × IsUnresolved P p
IsSpentNode P T p Open = IsUnresolved P p
IsSpentNode P T p (Fix v goal) = ((v < length T.vectors) × NamesOnlySides P (vector_at T v)
    × IsTrue (settles P p (vector_at T v) goal)) × IsUnresolved P p
IsSpentNode P T p node = Unit {0}

-- so it is at each of the nodes in preorder, one subtree for each waiting path
abbrev pub AreSpentNodes : Problem → ProofTree → List Node → List Path → Type 0
AreSpentNodes P T [] [] = Unit {0}
AreSpentNodes P T [] (p ∷ paths) = ⊥
AreSpentNodes P T (node ∷ nodes) [] = ⊥
AreSpentNodes P T (node ∷ nodes) (p ∷ paths) =
    IsSpentNode P T p node × AreSpentNodes P T nodes (below P T p node ++ paths)

-- the tree spends the budget: it has that many nodes, and its Open leaves are what a search depth
-- first left
pub record IsSpent (P : Problem) (T : ProofTree) (budget : ℕ) : Type 0 where
  pub nodes : length T.nodes ≡ budget
  pub some_open : 0 < open_leaves T.nodes
  pub depth_first : IsDepthFirst T.nodes
  pub unresolved : AreSpentNodes P T T.nodes (root P ∷ [])
