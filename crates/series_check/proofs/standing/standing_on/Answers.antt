use Rattle.std.proofs.Common.{refl}
use Rattle.series_check.specs.Cuts.{one_form}
use Rattle.series_check.proofs.standing.standing_on.Goals as goal

pub returns-clause-standing : goal.returns-clause-standing
returns-clause-standing c = c.standing_with.ensures.standing (one_form c.args.setting.now) refl
