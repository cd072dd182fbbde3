use Rattle.std.proofs.Common.{arith}
use Rattle.std.proofs.lemmas.Grind.{common_steps}
use Rattle.certificate_check.proofs.leaf.ray_fault.Goals as goal

pub returns-then-maximum_is_at_most : goal.returns-then-maximum_is_at_most
returns-then-maximum_is_at_most c = grind (arith, common_steps)

pub returns-else-maximum_is_at_most : goal.returns-else-maximum_is_at_most
returns-else-maximum_is_at_most c = grind (arith, common_steps)
