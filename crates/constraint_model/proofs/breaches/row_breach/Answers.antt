use Rattle.std.proofs.Common.{arith}
use Rattle.std.proofs.lemmas.Grind.{common_steps}
use Rattle.constraint_model.proofs.breaches.row_breach.Goals as goal

pub returns-then-found-lower_bound : goal.returns-then-found-lower_bound
returns-then-found-lower_bound c = grind (arith, common_steps)
