use Rattle.std.proofs.Common.{◌≡◌, ℕ, ◌<◌, ◌≤◌, length}
use Rattle.std.specs.Prelude.{pos, ◌+ℤ◌, ◌*ℤ◌}
use Rattle.certificate_model.specs.Ranges.{at}
use Rattle.certificate_model.specs.Weights.{item_activity}
use Rattle.lagrange_bound.proofs.weights.add_row.Given as goal

abbrev pub invariant-loop-i : goal.invariant-loop-i
invariant-loop-i l =
    record {
      whole : length l.weights ≡ 512;
      done : (j : ℕ) → j < l.i → at l.weights j ≡ at l.initial.weights j +ℤ (l.price *ℤ pos (item_activity l.bank l.row j));
      rest : (j : ℕ) → l.i ≤ j → at l.weights j ≡ at l.initial.weights j;
    }
