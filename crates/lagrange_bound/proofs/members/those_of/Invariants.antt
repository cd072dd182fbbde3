use Rattle.std.proofs.Common.{◌≡◌, ℕ, ◌&&◌, ◌==◌, nat_lt}
use Rattle.bank_tables.specs.Items.{has}
use Rattle.bank_tables.specs.Tables.{stimulus}
use Rattle.lagrange_bound.proofs.members.those_of.Given as goal

abbrev pub invariant-loop-i : goal.invariant-loop-i
invariant-loop-i l = (j : ℕ) → has l.those j ≡ (nat_lt j l.i && (has l.items j && stimulus l.bank j == l.which))
