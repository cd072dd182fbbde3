use Rattle.std.proofs.Common.{◌≡◌, ◌≤◌, ◌==◌}
use Rattle.bank_tables.specs.Items.{has}
use Rattle.bank_tables.specs.Sums.{count_in}
use Rattle.bank_tables.specs.Tables.{stimulus}
use Rattle.constraint_model.proofs.counts.items_of.Given as goal

abbrev pub invariant-loop-i : goal.invariant-loop-i
invariant-loop-i l = (l.n ≡ count_in l.i (has l.items) (λ i. stimulus l.bank i == l.stimulus)) × (l.n ≤ l.i)
