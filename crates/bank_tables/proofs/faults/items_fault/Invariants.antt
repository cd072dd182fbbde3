use Rattle.std.proofs.Common.{◌≡◌, None}
use Rattle.exam_text.specs.First.{first_below}
use Rattle.bank_tables.specs.Tables.{item}
use Rattle.bank_tables.specs.Faults.{item_fault}
use Rattle.bank_tables.proofs.faults.items_fault.Given as goal

abbrev pub invariant-loop-i : goal.invariant-loop-i
invariant-loop-i l = first_below l.i (λ i. item_fault l.rows.grid l.rows.quantities i (item l.rows i)) ≡ None
