use Rattle.history_model.proofs.Running.{sessions_are_numbered}
use Rattle.history_model.proofs.laws.sessions_are_numbered.Goals as goal

pub returns : goal.returns
returns c = sessions_are_numbered
