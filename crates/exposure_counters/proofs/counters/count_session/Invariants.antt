use Rattle.std.proofs.Common.{◌≡◌, ℕ, ◌<◌, ◌≤◌, get_or}
use Rattle.bank_tables.specs.Items.{has}
use Rattle.exposure_counters.specs.Tallies.{no_counts, counted}
use Rattle.exposure_counters.proofs.counters.count_session.Given as goal

abbrev pub invariant-loop-i : goal.invariant-loop-i
invariant-loop-i l =
    ((k : ℕ) → k < l.i → get_or l.counts k no_counts ≡ counted (get_or l.fn.counts k no_counts) (has l.shown k) (has l.eligible k))
    × ((k : ℕ) → l.i ≤ k → get_or l.counts k no_counts ≡ get_or l.fn.counts k no_counts)
