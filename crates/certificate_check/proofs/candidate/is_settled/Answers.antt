use Rattle.std.proofs.Common.{arith}
use Rattle.std.proofs.lemmas.Grind.{common_steps}
use Rattle.certificate_check.proofs.candidate.is_settled.Goals as goal

pub returns-then-lacks_chosen : goal.returns-then-lacks_chosen
returns-then-lacks_chosen c = grind (arith, common_steps)

pub returns-else-lacks_chosen : goal.returns-else-lacks_chosen
returns-else-lacks_chosen c = grind (arith, common_steps)
