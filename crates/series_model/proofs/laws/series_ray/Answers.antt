use Rattle.series_model.proofs.SeriesDualityLaws.{series_ray}
use Rattle.series_model.proofs.laws.series_ray.Goals as goal

pub returns : goal.returns
returns c = series_ray
