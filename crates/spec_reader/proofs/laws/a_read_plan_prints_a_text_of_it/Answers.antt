use Rattle.spec_reader.proofs.BackLaws.{canonical_says}
use Rattle.spec_reader.proofs.ReadKeys.{text_key}
use Rattle.spec_reader.proofs.laws.a_read_plan_prints_a_text_of_it.Goals as goal

pub returns : goal.returns
returns c = λ b text plan bank is says. canonical_says b plan bank is (text_key b text plan says)
