use Rattle.std.proofs.Common.{◌≡◌, ℕ, ◌<◌, ◌≤◌, length}
use Rattle.std.specs.Prelude.{◌-ℤ◌}
use Rattle.certificate_model.specs.Ranges.{at}
use Rattle.lagrange_bound.proofs.links.lower.Given as goal

abbrev pub invariant-loop-i : goal.invariant-loop-i
invariant-loop-i l =
    record {
      whole : length l.weights ≡ 512;
      done : (j : ℕ) → j < l.i → at l.weights j ≡ at l.initial.weights j -ℤ at l.by j;
      rest : (j : ℕ) → l.i ≤ j → at l.weights j ≡ at l.initial.weights j;
    }
