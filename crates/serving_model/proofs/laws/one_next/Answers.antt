use Rattle.serving_model.proofs.OneMode.{one_next}
use Rattle.serving_model.proofs.laws.one_next.Goals as goal

pub returns : goal.returns
returns c = one_next
