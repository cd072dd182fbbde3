use Rattle.std.proofs.Common.{rules}
use Rattle.constraint_model.proofs.breaches.meets.Goals as goal

pub returns-in-Some-first_common : goal.returns-in-Some-first_common
returns-in-Some-first_common c = search rules
