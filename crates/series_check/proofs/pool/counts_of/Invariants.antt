use Rattle.std.proofs.Common.{◌≡◌, ℕ, ◌<◌, length}
use Rattle.std.specs.Prelude.{◌-ℤ◌}
use Rattle.certificate_model.specs.Ranges.{IsWithin, at}
use Rattle.series_check.specs.Tops.{item_top}
use Rattle.series_check.proofs.pool.counts_of.Given as goal

abbrev pub invariant-loop-i : goal.invariant-loop-i
invariant-loop-i l = (length l.counts ≡ 512) × ((k : ℕ) → k < l.i → (at l.counts k ≡ at l.weights k -ℤ l.price) × IsWithin item_top (at l.counts k))
