use Rattle.history_model.proofs.CountLaws.{band_counts_go_on}
use Rattle.history_model.proofs.laws.band_counts_go_on.Goals as goal

pub returns : goal.returns
returns c = band_counts_go_on
