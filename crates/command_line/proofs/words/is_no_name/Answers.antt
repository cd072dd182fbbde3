use Rattle.command_line.proofs.words.is_no_name.Goals as goal
use Rattle.std.proofs.Common.{rules}

pub returns-else-is_empty : goal.returns-else-is_empty
returns-else-is_empty c = search rules
