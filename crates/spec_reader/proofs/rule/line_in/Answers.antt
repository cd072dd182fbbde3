use Rattle.std.proofs.Common.{arith}
use Rattle.std.proofs.lemmas.Grind.{common_steps}
use Rattle.spec_reader.specs.Rules.{line_of}
use Rattle.spec_reader.proofs.rule.line_in.Goals as goal

pub returns-in_default : goal.returns-in_default
unfolding line_of
returns-in_default c = grind (arith, common_steps)

pub returns-then-not-none_empty : goal.returns-then-not-none_empty
unfolding line_of
returns-then-not-none_empty c = grind (arith, common_steps)

pub returns : goal.returns
unfolding line_of
returns c = grind (arith, common_steps)
