use Rattle.certificate_model.proofs.Bettering.{bettering_keeps}
use Rattle.certificate_model.proofs.laws.bettering_keeps.Goals as goal

pub returns : goal.returns
returns c = bettering_keeps
