use Rattle.std.proofs.Common.{◌≡◌, ℕ, ◌<◌, length}
use Rattle.certificate_model.specs.Ranges.{IsWithin, at}
use Rattle.series_check.specs.Pools.{held_count, IsGreater}
use Rattle.series_check.specs.Tops.{item_top}
use Rattle.series_check.proofs.pool.greatest.Given as goal

abbrev pub invariant-loop-i : goal.invariant-loop-i
invariant-loop-i l = (length l.counts ≡ 512) × ((k : ℕ) → k < l.i → IsGreater (held_count l.first k) (held_count l.second k) (at l.counts k) × IsWithin item_top (at l.counts k))
