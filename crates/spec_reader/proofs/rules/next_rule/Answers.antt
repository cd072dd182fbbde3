use Rattle.std.proofs.Common.{arith}
use Rattle.std.proofs.lemmas.Grind.{common_steps}
use Rattle.spec_reader.specs.Lines.{next_rule}
use Rattle.spec_reader.proofs.rules.next_rule.Goals as goal

pub returns-then-is_skipped : goal.returns-then-is_skipped
unfolding next_rule
returns-then-is_skipped c = grind (arith, common_steps)

pub returns-in_err-words : goal.returns-in_err-words
unfolding next_rule
returns-in_err-words c = grind (arith, common_steps)

pub returns-in_err-rule : goal.returns-in_err-rule
unfolding next_rule
returns-in_err-rule c = grind (arith, common_steps)

pub returns : goal.returns
unfolding next_rule
returns c = grind (arith, common_steps)
