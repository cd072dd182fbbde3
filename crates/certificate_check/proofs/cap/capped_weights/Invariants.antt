use Rattle.std.proofs.Common.{◌≡◌, ℕ, ◌<◌, length}
use Rattle.std.specs.Prelude.{◌-ℤ◌, slice_index}
use Rattle.constraint_model.specs.Views.{problem_of}
use Rattle.certificate_model.specs.Ranges.{IsWithin, at}
use Rattle.certificate_check.specs.Cuts.{path_of}
use Rattle.certificate_check.specs.Weights.{item_top, excess_at}
use Rattle.certificate_check.proofs.cap.capped_weights.Given as goal

abbrev pub invariant-loop-i : goal.invariant-loop-i
invariant-loop-i l =
    (length l.capped ≡ 512) × ((i : ℕ) → i < l.i → (at l.capped i ≡ at l.weights i -ℤ excess_at (problem_of l.problem) (path_of l.standing.cut) (slice_index l.sides) l.weights i) × IsWithin item_top (at l.capped i))
