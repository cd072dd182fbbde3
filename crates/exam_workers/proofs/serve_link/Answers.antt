use Rattle.std.proofs.Common.{rules}
use Rattle.exam_workers.proofs.serve_link.Goals as goal

pub returns : goal.returns
returns c = search rules
