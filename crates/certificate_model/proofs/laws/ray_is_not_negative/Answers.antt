use Rattle.certificate_model.proofs.Duality.{weak_ray}
use Rattle.certificate_model.proofs.laws.ray_is_not_negative.Goals as goal

pub returns : goal.returns
returns c = weak_ray
