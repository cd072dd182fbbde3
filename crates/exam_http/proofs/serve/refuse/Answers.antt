use Rattle.std.proofs.Common.{rules}
use Rattle.exam_http.proofs.serve.refuse.Goals as goal

pub returns-clause-refuses : goal.returns-clause-refuses
returns-clause-refuses g c = search rules

pub returns-clause-over : goal.returns-clause-over
returns-clause-over g c = search rules
