use Rattle.std.proofs.Common.{rules}
use Rattle.constraint_model.proofs.faults.base_breach.Goals as goal

pub returns-in-Some : goal.returns-in-Some
returns-in-Some c = search rules
