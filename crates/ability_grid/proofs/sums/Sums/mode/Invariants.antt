use Rattle.std.proofs.Common.{◌<◌, ◌≤◌, ℕ}
use Rattle.std.specs.Prelude.{◌≤ℤ◌, ◌<ℤ◌}
use Rattle.ability_grid.specs.Running.{sum_at}
use Rattle.ability_grid.proofs.sums.Sums.mode.Given as goal

-- the best of the points so far
abbrev pub invariant-loop-g : goal.invariant-loop-g
invariant-loop-g l =
    record {
      within : l.best < l.self.grid;
      greatest : (h : ℕ) → h < l.g → sum_at l.self h ≤ℤ sum_at l.self l.best;
      lowest : (h : ℕ) → h < l.best → sum_at l.self h <ℤ sum_at l.self l.best;
      reached : l.best ≤ l.g;
    }
