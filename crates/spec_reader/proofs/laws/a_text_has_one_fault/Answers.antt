use Rattle.spec_reader.proofs.OneFault.{one_read_fault}
use Rattle.spec_reader.proofs.laws.a_text_has_one_fault.Goals as goal

pub returns : goal.returns
returns c = one_read_fault
