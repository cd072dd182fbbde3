use Rattle.std.proofs.Common.{rules}
use Rattle.series_tree.proofs.reading.u16_of.Goals as goal

pub returns-clause-number : goal.returns-clause-number
returns-clause-number c = search rules
