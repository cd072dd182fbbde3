use Rattle.history_model.proofs.BandLaws.{aside_is_of_estimate}
use Rattle.history_model.proofs.laws.aside_is_of_estimate.Goals as goal

pub returns : goal.returns
returns c = aside_is_of_estimate
