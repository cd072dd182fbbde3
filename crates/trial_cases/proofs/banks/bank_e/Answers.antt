use Rattle.form_model.proofs.BankE.{bank_e}
use Rattle.trial_cases.proofs.Faultless.{faultless_e, none_faulty, bank_is_them}
use Rattle.trial_cases.proofs.banks.bank_e.Goals as goal

pub bank_of-requires : goal.bank_of-requires
bank_of-requires c = none_faulty c.rows_e.result bank_e faultless_e c.rows_e.ensures

pub returns-clause-bank : goal.returns-clause-bank
returns-clause-bank c = bank_is_them c.rows_e.result c.bank_of.result bank_e c.rows_e.ensures c.bank_of.ensures.bank
