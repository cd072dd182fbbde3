use Rattle.std.proofs.Common.{All, take}
use Rattle.proof_tree.specs.Shape.{IsNode}
use Rattle.proof_tree.proofs.tree.are_nodes.Given as goal

abbrev pub invariant-loop-node : goal.invariant-loop-node
invariant-loop-node l = All IsNode (take l.node-index l.nodes)
