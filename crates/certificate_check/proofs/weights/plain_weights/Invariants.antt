use Rattle.std.proofs.Common.{◌≡◌, ℕ, ◌<◌, length}
use Rattle.std.specs.Prelude.{slice_index}
use Rattle.constraint_model.specs.Views.{problem_of}
use Rattle.certificate_model.specs.Ranges.{IsWithin, at}
use Rattle.certificate_check.specs.Weights.{weight_up_to}
use Rattle.certificate_check.proofs.weights.plain_weights.Given as goal

abbrev pub invariant-loop-i : goal.invariant-loop-i
invariant-loop-i l = (length l.weights ≡ 512) × ((i : ℕ) → i < l.i → (at l.weights i ≡ weight_up_to (problem_of l.problem) (slice_index l.sides) l.ray 0 i) × IsWithin 1099750850560 (at l.weights i))
