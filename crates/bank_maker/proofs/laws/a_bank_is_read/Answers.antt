use Rattle.bank_maker.proofs.BankTexts.{drill_text}
use Rattle.bank_maker.proofs.laws.a_bank_is_read.Goals as goal

pub returns : goal.returns
returns c = drill_text
