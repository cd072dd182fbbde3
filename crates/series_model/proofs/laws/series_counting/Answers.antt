use Rattle.series_model.proofs.SeriesDualityLaws.{series_counting}
use Rattle.series_model.proofs.laws.series_counting.Goals as goal

pub returns : goal.returns
returns c = series_counting
