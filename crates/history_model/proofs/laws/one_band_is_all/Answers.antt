use Rattle.history_model.proofs.OneBand.{one_band_is_all}
use Rattle.history_model.proofs.laws.one_band_is_all.Goals as goal

pub returns : goal.returns
returns c = one_band_is_all
