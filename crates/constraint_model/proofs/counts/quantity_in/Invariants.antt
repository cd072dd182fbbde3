use Rattle.std.proofs.Common.{◌≡◌, ◌*◌, ◌≤◌}
use Rattle.bank_tables.specs.Items.{has}
use Rattle.bank_tables.specs.Sums.{sum_in}
use Rattle.constraint_model.specs.Countable.{quantity_of}
use Rattle.constraint_model.proofs.counts.quantity_in.Given as goal

abbrev pub invariant-loop-i : goal.invariant-loop-i
invariant-loop-i l = (l.sum ≡ sum_in l.i (has l.items) (quantity_of l.bank (has l.set) l.which)) × (l.sum ≤ l.i * 65535)
