use Rattle.certificate_model.proofs.OneVerdict.{one_verdict}
use Rattle.certificate_model.proofs.laws.one_verdict.Goals as goal

pub returns : goal.returns
returns c = one_verdict
