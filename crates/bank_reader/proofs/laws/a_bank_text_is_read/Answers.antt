use Rattle.bank_reader.proofs.BankLaws.{text_is, text_again}
use Rattle.bank_reader.proofs.laws.a_bank_text_is_read.Goals as goal

pub returns-clause-read : goal.returns-clause-read
returns-clause-read c = text_is

pub returns-clause-again : goal.returns-clause-again
returns-clause-again c = text_again
