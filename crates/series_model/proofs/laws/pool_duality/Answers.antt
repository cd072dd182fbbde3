use Rattle.series_model.proofs.PoolLaws.{pool_duality}
use Rattle.series_model.proofs.laws.pool_duality.Goals as goal

pub returns : goal.returns
returns c = pool_duality
