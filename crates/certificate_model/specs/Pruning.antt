-- Pruning by counting: no path is followed past a row that is impossible.
use Rattle.std.specs.Prelude.{◌≡◌, ℕ, List, [], ◌∷◌, ◌++◌, Some}
use Rattle.certificate_model.specs.declared.node.Node.{Node}
use Rattle.certificate_model.specs.declared.node.Node.TheVariants.{Count}
use Rattle.form_model.specs.Problem.{Problem}
use Rattle.certificate_model.specs.Paths.{Path, root}
use Rattle.certificate_model.specs.Counting.{IsFirstImpossible}
use Rattle.certificate_model.specs.ProofTrees.{ProofTree}
use Rattle.certificate_model.specs.Verdicts.{below}

-- at each of the nodes in preorder, one subtree for each waiting path: where a row is impossible by
-- counting, the node is the Count leaf of the lowest such row
abbrev pub ArePruned : Problem → ProofTree → List Node → List Path → Type 0
ArePruned P T [] [] = Unit {0}
ArePruned P T [] (p ∷ paths) = ⊥
ArePruned P T (node ∷ nodes) [] = ⊥
ArePruned P T (node ∷ nodes) (p ∷ paths) = ((r : ℕ) → IsFirstImpossible P p (Some r) → node ≡ Count r)
    × ArePruned P T nodes (below P T p node ++ paths)

-- so it is in the whole tree
abbrev pub IsPruned : Problem → ProofTree → Type 0
IsPruned P T = ArePruned P T T.nodes (root P ∷ [])
