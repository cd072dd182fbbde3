use Rattle.std.proofs.Common.{arith, refl}
use Rattle.certificate_model.specs.Ranges.{at}
use Rattle.certificate_check.specs.Costs.{margin_top}
use Rattle.certificate_check.proofs.CostLaws.{below_is}
use Rattle.certificate_check.proofs.fixing.item_loss.Goals as goal

pub returns-clause-value : goal.returns-clause-value
returns-clause-value c = (below_is margin_top (at c.args.costs.now.margins c.args.item) _ c.below_zero.result (omega arith) (c.requires.costs.margins_within c.args.item c.requires.item) (c.requires.costs.margins_are c.args.item c.requires.item) c.below_zero.ensures).0

pub returns-clause-within : goal.returns-clause-within
returns-clause-within c = (below_is margin_top (at c.args.costs.now.margins c.args.item) _ c.below_zero.result (omega arith) (c.requires.costs.margins_within c.args.item c.requires.item) refl c.below_zero.ensures).1
