use Rattle.form_model.proofs.SomeMode.{mode_is_mode_of}
use Rattle.form_model.proofs.laws.mode_is_mode_of.Goals as goal

pub returns : goal.returns
returns c = mode_is_mode_of
