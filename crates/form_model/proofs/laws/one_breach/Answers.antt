use Rattle.form_model.proofs.OneBreach.{one_breach}
use Rattle.form_model.proofs.laws.one_breach.Goals as goal

pub returns : goal.returns
returns c = one_breach
