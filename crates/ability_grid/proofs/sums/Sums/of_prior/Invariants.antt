use Rattle.std.proofs.Common.{◌≡◌, ◌<◌, ℕ, get_or, length}
use Rattle.std.specs.Prelude.{pos, negsuc, ◌≤ℤ◌}
use Rattle.ability_grid.proofs.sums.Sums.of_prior.Given as goal

-- the prior at the points so far
abbrev pub invariant-loop-g : goal.invariant-loop-g
invariant-loop-g l =
    record {
      room : length l.values ≡ 61;
      done : (h : ℕ) → h < l.g → get_or l.values h (pos 0) ≡ get_or l.prior h (pos 0);
      low : (h : ℕ) → h < l.g → negsuc 2147483647 ≤ℤ get_or l.values h (pos 0);
      high : (h : ℕ) → h < l.g → get_or l.values h (pos 0) ≤ℤ pos 2147483647;
    }
