use Rattle.std.proofs.Common.{◌≡◌, ℕ, ◌+◌, ◌*◌, ◌<◌, length, get_or}
use Rattle.series_check.proofs.sides.form_sides.Given as goal

abbrev pub invariant-loop-side : goal.invariant-loop-side
invariant-loop-side l = (length l.own ≡ 384) × ((k : ℕ) → k < l.side → get_or l.own k 0 ≡ get_or l.sides (768 + 384 * l.form + k) 0)
