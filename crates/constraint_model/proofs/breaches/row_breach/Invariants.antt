use Rattle.bank_tables.specs.Items.{has}
use Rattle.constraint_model.specs.FirstBreaches.{RowsHoldBelow}
use Rattle.constraint_model.proofs.breaches.row_breach.Given as goal

abbrev pub invariant-loop-r : goal.invariant-loop-r
invariant-loop-r l = RowsHoldBelow l.bank l.plan (has l.form) l.r
