use Rattle.series_model.proofs.PoolLaws.{pool_ray}
use Rattle.series_model.proofs.laws.pool_ray.Goals as goal

pub returns : goal.returns
returns c = pool_ray
