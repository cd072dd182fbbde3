use Rattle.std.proofs.Common.{arith}
use Rattle.std.proofs.lemmas.Grind.{common_steps}
use Rattle.certificate_check.proofs.cap.add_excess.Goals as goal

pub returns-then-which-ne0 : goal.returns-then-which-ne0
returns-then-which-ne0 c = grind (arith, common_steps)
