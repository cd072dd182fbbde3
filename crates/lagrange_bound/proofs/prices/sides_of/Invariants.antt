use Rattle.std.proofs.Common.{◌≡◌, ℕ, ◌-◌, ◌≤◌, get_or, length, drop}
use Rattle.certificate_model.specs.Relaxed.{multiplier}
use Rattle.lagrange_bound.proofs.prices.sides_of.Given as goal

-- the multipliers of the last pairs
abbrev pub invariant-loop-k : goal.invariant-loop-k
invariant-loop-k l = record { whole : length l.sides ≡ 386; value : (side : ℕ) → get_or l.sides side 0 ≡ multiplier (drop (length l.pairs - l.k) l.pairs) side; high : (side : ℕ) → get_or l.sides side 0 ≤ 16777216 }
