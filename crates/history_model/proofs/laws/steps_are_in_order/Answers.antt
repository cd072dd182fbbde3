use Rattle.history_model.proofs.Running.{steps_are_in_order}
use Rattle.history_model.proofs.laws.steps_are_in_order.Goals as goal

pub returns : goal.returns
returns c = steps_are_in_order
