use Rattle.serving_model.proofs.Staying.{form_stays}
use Rattle.serving_model.proofs.laws.form_stays.Goals as goal

pub returns : goal.returns
returns c = form_stays
