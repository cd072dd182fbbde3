use Rattle.std.proofs.Common.{rules}
use Rattle.constraint_model.proofs.spec.Spec.band.Goals as goal

pub returns-clause-band : goal.returns-clause-band
returns-clause-band c = search rules
