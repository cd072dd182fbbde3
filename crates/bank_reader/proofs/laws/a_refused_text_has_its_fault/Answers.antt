use Rattle.bank_reader.proofs.BankLaws.{text_fault}
use Rattle.bank_reader.proofs.laws.a_refused_text_has_its_fault.Goals as goal

pub returns : goal.returns
returns c = text_fault
