use Rattle.std.proofs.Common.{rules}
use Rattle.form_enumeration.proofs.enumeration.better_of.Goals as goal

pub returns-then-objective : goal.returns-then-objective
returns-then-objective c = search rules
