use Rattle.std.proofs.Common.{◌≡◌, ℕ, ◌≤◌, ◌==◌, get_or, length}
use Rattle.bank_tables.specs.Items.{has}
use Rattle.bank_tables.specs.Sums.{count_in}
use Rattle.bank_tables.specs.Tables.{stimulus}
use Rattle.lagrange_bound.proofs.counting.items_by_stimulus.Given as goal

abbrev pub invariant-loop-i : goal.invariant-loop-i
invariant-loop-i l = (length l.counts ≡ 65) × ((s : ℕ) → s ≤ 64 → get_or l.counts s 0 ≡ count_in l.i (has l.items) (λ i. stimulus l.bank i == s)) × ((s : ℕ) → get_or l.counts s 0 ≤ l.i)
