use Rattle.form_model.proofs.BankS.{bank_s}
use Rattle.trial_cases.proofs.Faultless.{faultless_s, none_faulty, bank_is_them}
use Rattle.trial_cases.proofs.banks.bank_s.Goals as goal

pub bank_of-requires : goal.bank_of-requires
bank_of-requires c = none_faulty c.rows_s.result bank_s faultless_s c.rows_s.ensures

pub returns-clause-bank : goal.returns-clause-bank
returns-clause-bank c = bank_is_them c.rows_s.result c.bank_of.result bank_s c.rows_s.ensures c.bank_of.ensures.bank
