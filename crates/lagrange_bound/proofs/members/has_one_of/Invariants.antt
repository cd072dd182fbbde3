use Rattle.std.proofs.Common.{◌≡◌, false, ◌&&◌, ◌==◌}
use Rattle.bank_tables.specs.Items.{has}
use Rattle.bank_tables.specs.Sums.{any_below}
use Rattle.bank_tables.specs.Tables.{stimulus}
use Rattle.lagrange_bound.proofs.members.has_one_of.Given as goal

abbrev pub invariant-loop-i : goal.invariant-loop-i
invariant-loop-i l = any_below l.i (λ i. has l.items i && stimulus l.bank i == l.which) ≡ false
