use Rattle.std.proofs.Common.{◌≡◌, ◌<◌, ℕ, get_or, length}
use Rattle.std.specs.Prelude.{pos}
use Rattle.ability_grid.proofs.kept.KeptSums.sums.Given as goal

-- the sums at the points so far
abbrev pub invariant-loop-g : goal.invariant-loop-g
invariant-loop-g l =
    record {
      room : length l.values ≡ 61;
      done : (h : ℕ) → h < l.g → get_or l.values h (pos 0) ≡ get_or l.self.values h (pos 0);
    }
