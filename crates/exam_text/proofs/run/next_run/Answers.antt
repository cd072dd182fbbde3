use Rattle.std.proofs.Common.{rules}
use Rattle.exam_text.proofs.run.next_run.Goals as goal

pub returns-in-Some-clause-fits : goal.returns-in-Some-clause-fits
returns-in-Some-clause-fits c = search rules
