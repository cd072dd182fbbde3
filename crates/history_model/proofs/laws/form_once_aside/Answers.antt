use Rattle.history_model.proofs.AsideForms.{form_once_aside}
use Rattle.history_model.proofs.laws.form_once_aside.Goals as goal

pub returns : goal.returns
returns c = form_once_aside
