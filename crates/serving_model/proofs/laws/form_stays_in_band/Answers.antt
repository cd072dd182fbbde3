use Rattle.serving_model.proofs.Staying.{form_stays_in_band}
use Rattle.serving_model.proofs.laws.form_stays_in_band.Goals as goal

pub returns : goal.returns
returns c = form_stays_in_band
