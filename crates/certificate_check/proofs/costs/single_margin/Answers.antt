use Rattle.std.proofs.Common.{arith, refl}
use Rattle.certificate_model.specs.Ranges.{at}
use Rattle.certificate_check.specs.Costs.{margin_top}
use Rattle.certificate_check.proofs.CostLaws.{above_is}
use Rattle.certificate_check.proofs.costs.single_margin.Goals as goal

pub returns-then-is_single-clause-within : goal.returns-then-is_single-clause-within
returns-then-is_single-clause-within c = (above_is margin_top (at c.args.margins.now c.args.item) (at c.args.margins.now c.args.item) c.above_zero.result (omega arith) c.requires.margins refl c.above_zero.ensures).1
