use Rattle.std.proofs.Common.{arith, ◌≤◌}
use Rattle.bank_tables.specs.Tables.{size, stimulus}
use Rattle.bank_tables.specs.Sums.{greatest_below}
use Rattle.bank_tables.proofs.BankLaws.{greatest_at_most}
use Rattle.constraint_model.proofs.faults.stimuli_of.Goals as goal

pub returns-clause-few : goal.returns-clause-few
returns-clause-few c =
    let bank = c.args.bank.now in
    let few : greatest_below (size bank) (stimulus bank) ≤ 64 = greatest_at_most (size bank) 64 (stimulus bank) c.items.ensures.bank.stimulus_high in
    omega (arith, few, c.stimuli.ensures)
