use Rattle.certificate_model.proofs.TreeLaws.{optimal_is_best}
use Rattle.certificate_model.proofs.laws.optimal_is_best.Goals as goal

pub returns : goal.returns
returns c = optimal_is_best
