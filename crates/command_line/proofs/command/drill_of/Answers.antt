use Rattle.std.proofs.Common.{rules}
use Rattle.command_line.specs.Commands.{drill_of}
use Rattle.command_line.proofs.command.drill_of.Goals as goal

pub returns-clause-command : goal.returns-clause-command
unfolding drill_of
returns-clause-command c = search rules

pub returns-clause-range : goal.returns-clause-range
returns-clause-range c = search rules
