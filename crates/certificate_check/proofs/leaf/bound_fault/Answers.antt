use Rattle.std.proofs.Common.{arith}
use Rattle.std.proofs.lemmas.Grind.{common_steps}
use Rattle.certificate_check.proofs.leaf.bound_fault.Goals as goal

pub returns-then-closes : goal.returns-then-closes
returns-then-closes c = grind (arith, common_steps)

pub returns-else-closes : goal.returns-else-closes
returns-else-closes c = grind (arith, common_steps)
