use Rattle.spec_reader.proofs.SameLaws.{no_fault, only_outside}
use Rattle.spec_reader.proofs.laws.a_text_of_a_plan_is_read.Goals as goal

pub returns-clause-no_fault : goal.returns-clause-no_fault
returns-clause-no_fault c = no_fault

pub returns-clause-only : goal.returns-clause-only
returns-clause-only c = only_outside
