use Rattle.std.proofs.Common.{◌≡◌, ℕ, ◌<◌, ◌≤◌, cond, length}
use Rattle.bank_tables.specs.Items.{has}
use Rattle.certificate_model.specs.Ranges.{at}
use Rattle.lagrange_bound.specs.Fills.{no_weight}
use Rattle.lagrange_bound.proofs.weights.mark_others.Given as goal

abbrev pub invariant-loop-i : goal.invariant-loop-i
invariant-loop-i l =
    record {
      whole : length l.weights ≡ 512;
      done : (j : ℕ) → j < l.i → at l.weights j ≡ cond (has l.items j) (at l.initial.weights j) no_weight;
      rest : (j : ℕ) → l.i ≤ j → at l.weights j ≡ at l.initial.weights j;
    }
