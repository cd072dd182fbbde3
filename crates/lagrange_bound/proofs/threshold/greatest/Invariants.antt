use Rattle.std.proofs.Common.{ℕ, ◌<◌}
use Rattle.std.specs.Prelude.{pos, neg_ℤ, ◌≤ℤ◌}
use Rattle.certificate_model.specs.Ranges.{at}
use Rattle.lagrange_bound.specs.Ranges.{item_top}
use Rattle.lagrange_bound.proofs.threshold.greatest.Given as goal

abbrev pub invariant-loop-i : goal.invariant-loop-i
invariant-loop-i l = record { least : neg_ℤ (pos item_top) ≤ℤ l.most; most : l.most ≤ℤ pos item_top; above : (j : ℕ) → j < l.i → at l.weights j ≤ℤ l.most }
