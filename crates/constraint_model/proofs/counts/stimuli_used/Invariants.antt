use Rattle.std.proofs.Common.{◌≡◌, ℕ, nat_lt, ◌&&◌, ◌==◌}
use Rattle.bank_tables.specs.Items.{has}
use Rattle.bank_tables.specs.Sums.{any_below}
use Rattle.bank_tables.specs.Tables.{stimulus}
use Rattle.constraint_model.proofs.counts.stimuli_used.Given as goal

abbrev pub invariant-loop-i : goal.invariant-loop-i
invariant-loop-i l = (s : ℕ) → has l.stimuli s ≡ (nat_lt 0 s && any_below l.i (λ i. has l.items i && stimulus l.bank i == s))
