use Rattle.form_model.proofs.SomeMode.{some_mode}
use Rattle.form_model.proofs.laws.some_mode.Goals as goal

pub returns : goal.returns
returns c = some_mode
