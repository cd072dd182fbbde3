use Rattle.trial_cases.specs.Rows.{bank_l}
use Rattle.trial_cases.proofs.Faultless.{faultless_l, none_faulty, bank_is_them}
use Rattle.trial_cases.proofs.banks.bank_l.Goals as goal

pub bank_of-requires : goal.bank_of-requires
bank_of-requires c = none_faulty c.rows_l.result bank_l faultless_l c.rows_l.ensures

pub returns-clause-bank : goal.returns-clause-bank
returns-clause-bank c = bank_is_them c.rows_l.result c.bank_of.result bank_l c.rows_l.ensures c.bank_of.ensures.bank
