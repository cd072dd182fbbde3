use Rattle.std.proofs.Common.{rules}
use Rattle.exam_office.proofs.taking.follow.Goals as goal

pub apply-requires-clause-legal : goal.apply-requires-clause-legal
apply-requires-clause-legal c = search (rules, c.may_is_legal.ensures)

pub returns-clause-may : goal.returns-clause-may
returns-clause-may c = search rules
