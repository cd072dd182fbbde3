use Rattle.std.proofs.Common.{rules}
use Rattle.exam_program.proofs.auditing.total_text.Goals as goal

pub returns : goal.returns
returns c = search rules
