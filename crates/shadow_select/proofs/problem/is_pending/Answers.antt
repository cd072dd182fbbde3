use Rattle.std.proofs.Common.{rules}
use Rattle.shadow_select.proofs.problem.is_pending.Goals as goal

pub returns-then-answered-length : goal.returns-then-answered-length
returns-then-answered-length c = search rules
