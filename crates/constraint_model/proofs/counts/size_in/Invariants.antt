use Rattle.std.proofs.Common.{◌≡◌, ◌≤◌, true}
use Rattle.bank_tables.specs.Items.{has}
use Rattle.bank_tables.specs.Sums.{count_in}
use Rattle.constraint_model.proofs.counts.size_in.Given as goal

abbrev pub invariant-loop-i : goal.invariant-loop-i
invariant-loop-i l = (l.n ≡ count_in l.i (has l.items) (λ _. true)) × (l.n ≤ l.i)
