use Rattle.history_model.proofs.CountLaws.{finished_goes_on}
use Rattle.history_model.proofs.laws.finished_goes_on.Goals as goal

pub returns : goal.returns
returns c = finished_goes_on
