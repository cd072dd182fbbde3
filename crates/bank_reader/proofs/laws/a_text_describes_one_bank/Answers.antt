use Rattle.bank_reader.proofs.BankLaws.{one_bank}
use Rattle.bank_reader.proofs.laws.a_text_describes_one_bank.Goals as goal

pub returns : goal.returns
returns c = one_bank
