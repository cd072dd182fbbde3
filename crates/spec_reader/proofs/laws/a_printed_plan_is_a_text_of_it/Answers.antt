use Rattle.spec_reader.proofs.BackLaws.{canonical_says}
use Rattle.spec_reader.proofs.ShortLaws.{canonical_short}
use Rattle.spec_reader.proofs.laws.a_printed_plan_is_a_text_of_it.Goals as goal

pub returns-clause-text : goal.returns-clause-text
returns-clause-text c = canonical_says

pub returns-clause-short : goal.returns-clause-short
returns-clause-short c = canonical_short
