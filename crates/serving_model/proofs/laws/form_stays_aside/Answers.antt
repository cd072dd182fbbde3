use Rattle.serving_model.proofs.Staying.{form_stays_aside}
use Rattle.serving_model.proofs.laws.form_stays_aside.Goals as goal

pub returns : goal.returns
returns c = form_stays_aside
