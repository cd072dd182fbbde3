use Rattle.std.proofs.Common.{◌≡◌, ℕ, suc, ◌<◌, length}
use Rattle.std.specs.Prelude.{◌+ℤ◌, slice_index}
use Rattle.certificate_model.specs.Ranges.{IsWithin, at}
use Rattle.certificate_model.specs.Weights.{stimulus_weight}
use Rattle.constraint_model.specs.Views.{problem_of}
use Rattle.certificate_check.specs.Weights.{gain_top}
use Rattle.certificate_check.proofs.costs.uses_of.Given as goal

abbrev pub invariant-loop-k : goal.invariant-loop-k
invariant-loop-k l = (length l.uses ≡ 64) × ((k : ℕ) → k < l.k → (at l.uses k ≡ stimulus_weight (problem_of l.problem) (slice_index l.sides) (suc k) +ℤ at l.excesses k) × IsWithin gain_top (at l.uses k))
