use Rattle.std.proofs.Common.{◌↔◌, ◌≤◌, drop}
use Rattle.certificate_model.specs.ProofTrees.{IsVector}
use Rattle.proof_tree.proofs.vector.is_vector.Given as goal

abbrev pub invariant-loop-pair : goal.invariant-loop-pair
invariant-loop-pair l = (l.from ≤ 65536) × (IsVector 0 l.pairs ↔ IsVector l.from (drop l.pair-index l.pairs))
