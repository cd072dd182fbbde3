use Rattle.std.proofs.Common.{arith}
use Rattle.std.proofs.lemmas.Grind.{common_steps}
use Rattle.certificate_check.proofs.shape.is_depth_first.Goals as goal

pub returns-then-is_branch : goal.returns-then-is_branch
returns-then-is_branch c = grind (arith, common_steps)

pub loop-node-preserved : goal.loop-node-preserved
loop-node-preserved c = grind (arith, common_steps)
