use Rattle.std.proofs.Common.{ℕ, ◌<◌}
use Rattle.std.specs.Prelude.{pos, neg_ℤ, ◌≤ℤ◌}
use Rattle.certificate_model.specs.Ranges.{at}
use Rattle.lagrange_bound.specs.Ranges.{item_top}
use Rattle.lagrange_bound.proofs.threshold.least.Given as goal

abbrev pub invariant-loop-i : goal.invariant-loop-i
invariant-loop-i l = record { low : neg_ℤ (pos item_top) ≤ℤ l.low; high : l.low ≤ℤ l.greatest; below : (j : ℕ) → j < l.i → neg_ℤ (pos item_top) ≤ℤ at l.weights j → l.low ≤ℤ at l.weights j }
