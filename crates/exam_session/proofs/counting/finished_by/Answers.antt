use Rattle.std.proofs.Common.{rules}
use Rattle.exam_session.proofs.counting.finished_by.Goals as goal

pub returns-in-Closed : goal.returns-in-Closed
returns-in-Closed c = search rules
