use Rattle.std.proofs.Common.{arith}
use Rattle.std.proofs.lemmas.Int.{ints}
use Rattle.certificate_check.proofs.cap.cap.Goals as goal

pub returns-clause-cap : goal.returns-clause-cap
returns-clause-cap c = omega (arith, ints)
