use Rattle.std.proofs.Common.{◌↔◌, drop}
use Rattle.certificate_model.specs.Spending.{IsDepthFirst}
use Rattle.certificate_check.proofs.ShapeLaws.{IsRestDepthFirst}
use Rattle.certificate_check.proofs.shape.is_depth_first.Given as goal

abbrev pub invariant-loop-node : goal.invariant-loop-node
invariant-loop-node l = IsDepthFirst l.nodes ↔ IsRestDepthFirst l.found (drop l.node-index l.nodes)
