use Rattle.serving_model.proofs.NextItems.{some_next}
use Rattle.serving_model.proofs.laws.some_next.Goals as goal

pub returns : goal.returns
returns c = some_next
