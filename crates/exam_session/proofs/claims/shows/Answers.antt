use Rattle.std.proofs.Common.{rules}
use Rattle.exam_session.proofs.claims.shows.Goals as goal

pub returns-clause-shown : goal.returns-clause-shown
returns-clause-shown c = search rules

pub returns-then-not-spent-clause-reason : goal.returns-then-not-spent-clause-reason
returns-then-not-spent-clause-reason c = search rules

pub returns-then-not-is_asked-clause-reason : goal.returns-then-not-is_asked-clause-reason
returns-then-not-is_asked-clause-reason c = search rules
