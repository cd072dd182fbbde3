use Rattle.history_model.proofs.AsideForms.{form_where_aside}
use Rattle.history_model.proofs.laws.form_where_aside.Goals as goal

pub returns : goal.returns
returns c = form_where_aside
