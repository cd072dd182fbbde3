use Rattle.std.proofs.Common.{◌≤◌, arith}
use Rattle.bank_tables.specs.Tables.{stimulus}
use Rattle.bank_tables.specs.Sums.{greatest_below}
use Rattle.bank_tables.proofs.BankLaws.{greatest_at_most}
use Rattle.bank_tables.proofs.bank.greatest_stimulus.Goals as goal

pub overflow_cast-result : goal.overflow_cast-result
overflow_cast-result c =
    let few : greatest_below c.loop-i.i (stimulus c.args.rows.now) ≤ 64 = greatest_at_most c.loop-i.i 64 (stimulus c.args.rows.now) c.requires.stimulus_high in
    omega (arith, few, c.loop-i.invariant)
