use Rattle.history_model.proofs.LastForms.{last_form_stays_in_band}
use Rattle.history_model.proofs.laws.last_form_stays_in_band.Goals as goal

pub returns : goal.returns
returns c = last_form_stays_in_band
