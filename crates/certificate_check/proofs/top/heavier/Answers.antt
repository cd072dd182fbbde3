use Rattle.std.proofs.Common.{rules}
use Rattle.certificate_check.proofs.top.heavier.Goals as goal

pub returns-in-None-clause-best : goal.returns-in-None-clause-best
returns-in-None-clause-best c = search rules

pub returns-in-None-second-clause-best : goal.returns-in-None-second-clause-best
returns-in-None-second-clause-best c = search rules

pub returns-then-weights-one-clause-best : goal.returns-then-weights-one-clause-best
returns-then-weights-one-clause-best c = search rules

pub returns-else-weights-one-clause-best : goal.returns-else-weights-one-clause-best
returns-else-weights-one-clause-best c = search rules
