use Rattle.std.proofs.Common.{◌<◌, ◌≤◌}
use Rattle.std.specs.Prelude.{pos, neg_ℤ, ◌≤ℤ◌, ◌+ℤ◌}
use Rattle.lagrange_bound.specs.Fills.{at_least}
use Rattle.lagrange_bound.specs.Ranges.{item_top}
use Rattle.lagrange_bound.proofs.threshold.threshold_from.Given as goal

-- at least k are low or more, at most k are past the gap or more
abbrev pub invariant-loop-gap : goal.invariant-loop-gap
invariant-loop-gap l =
    record {
      low : neg_ℤ (pos item_top) ≤ℤ l.low;
      some : 0 < l.gap;
      high : (l.low +ℤ pos l.gap) ≤ℤ pos 140737488355329;
      enough : l.k ≤ at_least l.n l.weights l.low;
      few : at_least l.n l.weights (l.low +ℤ pos l.gap) ≤ l.k;
    }

abbrev pub decreases-loop-gap : goal.decreases-loop-gap
decreases-loop-gap l = l.gap
