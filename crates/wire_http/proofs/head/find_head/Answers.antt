use Rattle.std.proofs.Common.{arith}
use Rattle.std.proofs.lemmas.Grind.{common_steps}
use Rattle.wire_http.proofs.head.find_head.Goals as goal

pub returns-in_ok-head-in-Ok-Complete : goal.returns-in_ok-head-in-Ok-Complete
returns-in_ok-head-in-Ok-Complete c = grind (arith, common_steps)
