use Rattle.certificate_model.proofs.FixLaws.{fix_keeps}
use Rattle.certificate_model.proofs.laws.fix_keeps.Goals as goal

pub returns : goal.returns
returns c = fix_keeps
