use Rattle.form_model.proofs.BankQ.{bank_q}
use Rattle.trial_cases.proofs.Faultless.{faultless_q, none_faulty, bank_is_them}
use Rattle.trial_cases.proofs.banks.bank_q.Goals as goal

pub bank_of-requires : goal.bank_of-requires
bank_of-requires c = none_faulty c.rows_q.result bank_q faultless_q c.rows_q.ensures

pub returns-clause-bank : goal.returns-clause-bank
returns-clause-bank c = bank_is_them c.rows_q.result c.bank_of.result bank_q c.rows_q.ensures c.bank_of.ensures.bank
