use Rattle.std.proofs.Common.{◌≡◌, ◌≤◌}
use Rattle.lagrange_bound.specs.Fills.{at_least}
use Rattle.lagrange_bound.proofs.threshold.count_at_least.Given as goal

abbrev pub invariant-loop-i : goal.invariant-loop-i
invariant-loop-i l = (l.count ≡ at_least l.i l.weights l.threshold) × (l.count ≤ l.i)
