use Rattle.std.proofs.Common.{All, take}
use Rattle.series_tree.specs.Shape.{IsNode}
use Rattle.series_tree.proofs.tree.are_nodes.Given as goal

abbrev pub invariant-loop-node : goal.invariant-loop-node
invariant-loop-node l = All IsNode (take l.node-index l.nodes)
