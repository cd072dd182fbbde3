use Rattle.spec_reader.proofs.SameLaws.{one_plan}
use Rattle.spec_reader.proofs.laws.a_text_says_one_plan.Goals as goal

pub returns : goal.returns
returns c = one_plan
