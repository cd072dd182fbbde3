use Rattle.form_model.proofs.OneMode.{one_mode}
use Rattle.form_model.proofs.laws.one_mode.Goals as goal

pub returns : goal.returns
returns c = one_mode
