use Rattle.std.proofs.Common.{◌≡◌, drop}
use Rattle.certificate_model.specs.Spending.{open_leaves}
use Rattle.proof_tree.proofs.shape.has_open_leaf.Given as goal

abbrev pub invariant-loop-node : goal.invariant-loop-node
invariant-loop-node l = open_leaves l.nodes ≡ open_leaves (drop l.node-index l.nodes)
