use Rattle.form_model.proofs.BankA.{bank_a}
use Rattle.trial_cases.proofs.Faultless.{faultless_a, none_faulty, bank_is_them}
use Rattle.trial_cases.proofs.banks.bank_a.Goals as goal

pub bank_of-requires : goal.bank_of-requires
bank_of-requires c = none_faulty c.rows_a.result bank_a faultless_a c.rows_a.ensures

pub returns-clause-bank : goal.returns-clause-bank
returns-clause-bank c = bank_is_them c.rows_a.result c.bank_of.result bank_a c.rows_a.ensures c.bank_of.ensures.bank
