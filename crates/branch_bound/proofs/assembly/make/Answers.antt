use Rattle.std.proofs.Common.{arith}
use Rattle.std.proofs.lemmas.Grind.{common_steps}
use Rattle.branch_bound.proofs.assembly.make.Goals as goal

pub returns-in-Some-outcome_shown : goal.returns-in-Some-outcome_shown
returns-in-Some-outcome_shown c = grind (arith, common_steps) steps 1500000
