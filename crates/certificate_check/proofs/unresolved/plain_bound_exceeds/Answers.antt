use Rattle.std.proofs.Common.{sym}
use Rattle.std.proofs.Math.Bool.{true≢false}
use Rattle.certificate_check.proofs.unresolved.plain_bound_exceeds.Goals as goal

pub returns-in-None : goal.returns-in-None
returns-in-None c = (λ h. absurd (true≢false (sym h)), λ exceeds. absurd (c.in-None.ensures exceeds.maximum exceeds.is_maximum))
