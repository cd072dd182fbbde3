use Rattle.std.proofs.Common.{arith}
use Rattle.certificate_check.specs.Weights.{gain_top}
use Rattle.certificate_check.proofs.CostLaws.{above_is}
use Rattle.certificate_check.proofs.fixing.use_gain.Goals as goal

pub returns : goal.returns
returns c = (above_is gain_top c.use_at.result _ c.above_zero.result (omega arith) c.use_at.ensures.within c.use_at.ensures.value c.above_zero.ensures).0
