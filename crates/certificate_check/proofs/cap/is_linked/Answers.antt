use Rattle.std.proofs.Common.{rules}
use Rattle.certificate_check.proofs.cap.is_linked.Goals as goal

pub returns-then-has : goal.returns-then-has
returns-then-has c = search rules steps 1000000
