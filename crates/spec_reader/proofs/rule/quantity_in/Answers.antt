use Rattle.std.proofs.Common.{arith}
use Rattle.std.proofs.lemmas.Grind.{common_steps}
use Rattle.spec_reader.specs.Rules.{constraint_said}
use Rattle.spec_reader.proofs.rule.quantity_in.Goals as goal

pub returns : goal.returns
unfolding constraint_said
returns c = grind (arith, common_steps)

pub returns-in_err-high : goal.returns-in_err-high
unfolding constraint_said
returns-in_err-high c = grind (arith, common_steps)

pub returns-in_err-low : goal.returns-in_err-low
unfolding constraint_said
returns-in_err-low c = grind (arith, common_steps)

pub returns-in_err-set : goal.returns-in_err-set
unfolding constraint_said
returns-in_err-set c = grind (arith, common_steps)

pub returns-in_err-which : goal.returns-in_err-which
unfolding constraint_said
returns-in_err-which c = grind (arith, common_steps)
