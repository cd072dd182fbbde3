use Rattle.std.proofs.Common.{arith, rules}
use Rattle.std.proofs.lemmas.Grind.{common_steps}
use Rattle.replay_cli.specs.Reading.{answer_in}
use Rattle.replay_cli.proofs.script.answer_in.Goals as goal

pub returns-in_err-step : goal.returns-in_err-step
unfolding answer_in
returns-in_err-step c = search rules

pub returns : goal.returns
unfolding answer_in
returns c = grind (arith, common_steps)
