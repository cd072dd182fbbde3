use Rattle.std.proofs.Common.{ℕ, ◌<◌, All, get_or, []}
use Rattle.certificate_model.specs.ProofTrees.{IsVector}
use Rattle.proof_tree.proofs.tree.have_low_sides.Given as goal

abbrev pub invariant-loop-vector : goal.invariant-loop-vector
invariant-loop-vector l = ((v : ℕ) → v < l.vector-index → All (λ pair. pair.0 < 386) (get_or l.vectors v [])) × ((v : ℕ) → v < l.vector-index → IsVector 0 (get_or l.vectors v []))
