use Rattle.std.proofs.Common.{◌↔◌, ◌≤◌, ◌+◌, drop}
use Rattle.certificate_model.specs.ProofTrees.{AreTrees}
use Rattle.proof_tree.proofs.tree.are_one_tree.Given as goal

abbrev pub invariant-loop-node : goal.invariant-loop-node
invariant-loop-node l = (l.waiting ≤ l.node-index + 1) × (AreTrees 1 l.nodes ↔ AreTrees l.waiting (drop l.node-index l.nodes))
