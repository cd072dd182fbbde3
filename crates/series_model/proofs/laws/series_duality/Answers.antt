use Rattle.series_model.proofs.SeriesDualityLaws.{series_duality}
use Rattle.series_model.proofs.laws.series_duality.Goals as goal

pub returns : goal.returns
returns c = series_duality
