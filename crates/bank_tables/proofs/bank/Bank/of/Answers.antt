use Rattle.std.proofs.Common.{rules, sym, ◌∙◌, arith}
use Rattle.bank_tables.proofs.BankLaws.{bank_is}
use Rattle.bank_tables.proofs.bank.Bank.of.Goals as goal

pub greatest_stimulus-stimuli-requires : goal.greatest_stimulus-stimuli-requires
greatest_stimulus-stimuli-requires c = bank_is c.args.rows (sym c.first_fault.ensures ∙ c.in-None.is)

pub overflow_cast-result : goal.overflow_cast-result
overflow_cast-result c = omega (arith, (bank_is c.args.rows (sym c.first_fault.ensures ∙ c.in-None.is)).few_points)

pub overflow_cast-result-in-None : goal.overflow_cast-result-in-None
overflow_cast-result-in-None c = omega (arith, (bank_is c.args.rows (sym c.first_fault.ensures ∙ c.in-None.is)).few_quantities)

pub invariant_of-result : goal.invariant_of-result
invariant_of-result c = record {
  bank = bank_is c.args.rows (sym c.first_fault.ensures ∙ c.in-None.is);
  stimuli = c.greatest_stimulus-stimuli.ensures;
}

pub returns-in-Some-clause-fault : goal.returns-in-Some-clause-fault
returns-in-Some-clause-fault c = search rules
