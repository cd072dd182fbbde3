use Rattle.std.proofs.Common.{rules}
use Rattle.exam_session.proofs.book.Book.judge_start.Goals as goal

pub returns-then-session-count-clause-may : goal.returns-then-session-count-clause-may
returns-then-session-count-clause-may c = search rules

pub returns-then-session-count-clause-reason : goal.returns-then-session-count-clause-reason
returns-then-session-count-clause-reason c = search rules

pub returns-in-Some-clause-may : goal.returns-in-Some-clause-may
returns-in-Some-clause-may c = search rules

pub returns-in-Some-clause-reason : goal.returns-in-Some-clause-reason
returns-in-Some-clause-reason c = search rules

pub returns-in-Some-first_difference-clause-may : goal.returns-in-Some-first_difference-clause-may
returns-in-Some-first_difference-clause-may c = search rules

pub returns-in-Some-first_difference-clause-reason : goal.returns-in-Some-first_difference-clause-reason
returns-in-Some-first_difference-clause-reason c = search rules

pub returns-then-is_some-clause-may : goal.returns-then-is_some-clause-may
returns-then-is_some-clause-may c = search rules

pub returns-then-is_some-clause-reason : goal.returns-then-is_some-clause-reason
returns-then-is_some-clause-reason c = search rules

pub returns-clause-may : goal.returns-clause-may
returns-clause-may c = search rules

pub returns-clause-reason : goal.returns-clause-reason
returns-clause-reason c = search rules
