use Rattle.std.proofs.Common.{rules}
use Rattle.certificate_check.proofs.column.read_column.Goals as goal

pub returns-else-ne-clause-values : goal.returns-else-ne-clause-values
returns-else-ne-clause-values c = search rules steps 1000000
