use Rattle.bank_tables.proofs.BankLaws.{bank_is, bank_from}
use Rattle.bank_tables.proofs.laws.a_bank_has_no_fault.Goals as goal

pub returns-clause-bank : goal.returns-clause-bank
returns-clause-bank c = bank_is

pub returns-clause-faultless : goal.returns-clause-faultless
returns-clause-faultless c = bank_from
