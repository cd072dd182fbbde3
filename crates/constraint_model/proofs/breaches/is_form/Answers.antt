use Rattle.std.proofs.Common.{rules}
use Rattle.constraint_model.proofs.breaches.is_form.Goals as goal

pub returns : goal.returns
returns c = search rules
