use Rattle.history_model.proofs.Staying.{sessions_grow}
use Rattle.history_model.proofs.laws.sessions_grow.Goals as goal

pub returns : goal.returns
returns c = sessions_grow
