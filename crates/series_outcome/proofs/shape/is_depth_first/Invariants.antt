use Rattle.std.proofs.Common.{◌↔◌, drop}
use Rattle.series_outcome.specs.Spending.{IsDepthFirst}
use Rattle.series_outcome.proofs.ShapeLaws.{IsRestDepthFirst}
use Rattle.series_outcome.proofs.shape.is_depth_first.Given as goal

abbrev pub invariant-loop-node : goal.invariant-loop-node
invariant-loop-node l = IsDepthFirst l.nodes ↔ IsRestDepthFirst l.found (drop l.node-index l.nodes)
