use Rattle.std.proofs.Common.{◌≡◌, ℕ, ◌<◌, length}
use Rattle.std.specs.Prelude.{slice_index}
use Rattle.certificate_model.specs.Ranges.{IsWithin, at}
use Rattle.constraint_model.specs.Views.{problem_of}
use Rattle.lagrange_bound.specs.Shares.{own_weight}
use Rattle.lagrange_bound.proofs.weights.own_weights.Given as goal

abbrev pub invariant-loop-i : goal.invariant-loop-i
invariant-loop-i l =
    record {
      whole : length l.weights ≡ 512;
      value : (i : ℕ) → i < l.i → at l.weights i ≡ own_weight (problem_of l.problem) (slice_index l.sides) l.ray i;
      within : (i : ℕ) → i < l.i → IsWithin 272777216 (at l.weights i);
    }
