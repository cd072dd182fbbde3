use Rattle.certificate_model.proofs.Duality.{weak_duality}
use Rattle.certificate_model.proofs.laws.weak_duality.Goals as goal

pub returns : goal.returns
returns c = weak_duality
