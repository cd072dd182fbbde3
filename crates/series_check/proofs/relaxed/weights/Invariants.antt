use Rattle.std.proofs.Common.{◌≡◌, ℕ, ◌<◌, length}
use Rattle.std.specs.Prelude.{slice_index}
use Rattle.certificate_model.specs.Ranges.{IsWithin, at}
use Rattle.series_check.specs.Cuts.{problem_of}
use Rattle.series_check.specs.Maximum.{weight_at}
use Rattle.series_check.specs.Tops.{weight_top}
use Rattle.series_check.proofs.relaxed.weights.Given as goal

abbrev pub invariant-loop-i : goal.invariant-loop-i
invariant-loop-i l = (length l.weights ≡ 512) × ((i : ℕ) → i < l.i → (at l.weights i ≡ weight_at (problem_of l.setting) (slice_index l.sides) (slice_index l.own) l.ray l.form i) × IsWithin weight_top (at l.weights i))
