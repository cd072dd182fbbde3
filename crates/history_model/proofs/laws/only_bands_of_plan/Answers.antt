use Rattle.history_model.proofs.BandLaws.{only_bands_of_plan}
use Rattle.history_model.proofs.laws.only_bands_of_plan.Goals as goal

pub returns : goal.returns
returns c = only_bands_of_plan
