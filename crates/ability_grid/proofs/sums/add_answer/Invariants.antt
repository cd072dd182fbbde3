use Rattle.std.proofs.Common.{◌≡◌, ◌<◌, ◌≤◌, ℕ, get_or}
use Rattle.std.specs.Prelude.{pos, ◌+ℤ◌}
use Rattle.bank_tables.specs.Tables.{loglik}
use Rattle.ability_grid.proofs.sums.add_answer.Given as goal

-- the points so far have the answer added, the others are as they were
abbrev pub invariant-loop-g : goal.invariant-loop-g
invariant-loop-g l =
    record {
      done : (h : ℕ) → h < l.g → get_or l.values h (pos 0) ≡ get_or l.initial.values h (pos 0) +ℤ loglik l.bank l.item l.response h;
      rest : (h : ℕ) → l.g ≤ h → get_or l.values h (pos 0) ≡ get_or l.initial.values h (pos 0);
    }
