use Rattle.std.proofs.Common.{◌≡◌, ℕ, ◌&&◌, not, nat_lt}
use Rattle.bank_tables.specs.Items.{has}
use Rattle.lagrange_bound.proofs.members.others.Given as goal

abbrev pub invariant-loop-i : goal.invariant-loop-i
invariant-loop-i l = (j : ℕ) → has l.rest j ≡ (nat_lt j l.i && (not (has l.taken j) && not (has l.out j)))
