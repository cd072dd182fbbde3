use Rattle.std.proofs.Common.{arith, refl}
use Rattle.certificate_check.specs.Weights.{gain_top}
use Rattle.certificate_check.proofs.CostLaws.{below_is}
use Rattle.certificate_check.proofs.fixing.use_loss.Goals as goal

pub returns-clause-value : goal.returns-clause-value
returns-clause-value c = (below_is gain_top c.use_at.result _ c.below_zero.result (omega arith) c.use_at.ensures.within c.use_at.ensures.value c.below_zero.ensures).0

pub returns-clause-within : goal.returns-clause-within
returns-clause-within c = (below_is gain_top c.use_at.result _ c.below_zero.result (omega arith) c.use_at.ensures.within refl c.below_zero.ensures).1
