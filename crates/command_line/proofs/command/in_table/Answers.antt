use Rattle.std.proofs.Common.{arith}
use Rattle.std.proofs.lemmas.Grind.{common_steps}
use Rattle.command_line.specs.Commands.{table}
use Rattle.command_line.proofs.command.in_table.Goals as goal

pub returns-in-len4-clause-command : goal.returns-in-len4-clause-command
unfolding table
returns-in-len4-clause-command c = grind (arith, common_steps)
