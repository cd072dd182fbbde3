use Rattle.std.proofs.Common.{◌≡◌, ℕ, ◌<◌, length}
use Rattle.std.specs.Prelude.{◌-ℤ◌}
use Rattle.certificate_model.specs.Ranges.{IsWithin, at}
use Rattle.certificate_check.specs.Costs.{margin_top}
use Rattle.certificate_check.proofs.costs.margins_of.Given as goal

abbrev pub invariant-loop-i : goal.invariant-loop-i
invariant-loop-i l = (length l.margins ≡ 512) × ((i : ℕ) → i < l.i → (at l.margins i ≡ at l.weights i -ℤ l.place_price) × IsWithin margin_top (at l.margins i))
