-- A series tree that spends its node budget.
use Rattle.std.specs.Prelude.{◌≡◌, ℕ, ◌<◌, List, [], ◌∷◌, ◌++◌, length, IsFalse}
use Rattle.certificate_model.specs.Counting.{is_impossible}
use Rattle.series_model.specs.declared.node.SeriesNode.{SeriesNode}
use Rattle.series_model.specs.declared.node.SeriesNode.TheVariants.{Branch, Open, Use, Twin}
use Rattle.series_model.specs.Series.{SeriesProblem}
use Rattle.series_model.specs.SeriesPaths.{SeriesPath, root, form_problem, form_path}
use Rattle.series_model.specs.SeriesTrees.{Certificate}
use Rattle.series_model.specs.SeriesVerdicts.{below}
use Rattle.series_tree.specs.Shape.{IsBranch, open_leaves}

abbrev pub HasNoBranch : List SeriesNode → Type 0
HasNoBranch [] = Unit {0}
HasNoBranch (node ∷ nodes) = (IsBranch node → ⊥) × HasNoBranch nodes

-- no branch is after the first Open leaf: the tree was searched depth first
abbrev pub IsDepthFirst : List SeriesNode → Type 0
IsDepthFirst [] = Unit {0}
IsDepthFirst (Open ∷ nodes) = HasNoBranch nodes
IsDepthFirst (node ∷ nodes) = IsDepthFirst nodes

-- no row of a form is impossible by counting on the path
abbrev pub IsPossible : SeriesProblem → SeriesPath → Type 0
IsPossible Q p = (f r : ℕ) → f < Q.forms
    → IsFalse (is_impossible (form_problem Q) (form_path Q p f) r)

-- at a branch and at an Open leaf no row is impossible by counting
abbrev pub IsSpentNode : SeriesProblem → SeriesPath → SeriesNode → Type 0
IsSpentNode Q p (Branch f i) = IsPossible Q p
IsSpentNode Q p (Use i) = IsPossible Q p
IsSpentNode Q p (Twin f i) = IsPossible Q p
IsSpentNode Q p Open = IsPossible Q p
IsSpentNode Q p node = Unit {0}

-- so it is at each of the nodes in preorder, one subtree for each waiting path
abbrev pub AreSpentNodes : SeriesProblem → List SeriesNode → List SeriesPath → Type 0
AreSpentNodes Q [] [] = Unit {0}
AreSpentNodes Q [] (p ∷ paths) = ⊥
AreSpentNodes Q (node ∷ nodes) [] = ⊥
AreSpentNodes Q (node ∷ nodes) (p ∷ paths) =
    IsSpentNode Q p node × AreSpentNodes Q nodes (below Q p node ++ paths)

-- the tree spends the budget: it has that many nodes, and its Open leaves are what a search depth
-- first left
pub record IsSpent (Q : SeriesProblem) (T : Certificate) (budget : ℕ) : Type 0 where
  pub nodes : length T.nodes ≡ budget
  pub some_open : 0 < open_leaves T.nodes
  pub depth_first : IsDepthFirst T.nodes
  pub possible : AreSpentNodes Q T.nodes (root ∷ [])
