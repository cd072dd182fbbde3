use Rattle.std.proofs.Common.{◌≡◌, ℕ, length, drop}
use Rattle.series_check.proofs.SideLaws.{IsRead}
use Rattle.series_check.proofs.sides.sides_of.Given as goal

abbrev pub invariant-loop-side : goal.invariant-loop-side
invariant-loop-side l = (length l.sides ≡ 2315) × ((from : ℕ) × IsRead l.vector (drop l.side-index l.vector) l.sides from)
