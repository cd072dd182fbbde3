use Rattle.history_model.proofs.Running.{last_form_stays}
use Rattle.history_model.proofs.laws.last_form_stays.Goals as goal

pub returns : goal.returns
returns c = last_form_stays
