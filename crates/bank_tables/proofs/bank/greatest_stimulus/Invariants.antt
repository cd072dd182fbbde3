use Rattle.std.proofs.Common.{◌≡◌}
use Rattle.bank_tables.specs.Tables.{stimulus}
use Rattle.bank_tables.specs.Sums.{greatest_below}
use Rattle.bank_tables.proofs.bank.greatest_stimulus.Given as goal

abbrev pub invariant-loop-i : goal.invariant-loop-i
invariant-loop-i l = l.most ≡ greatest_below l.i (stimulus l.rows)
