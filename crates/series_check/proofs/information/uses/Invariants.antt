use Rattle.std.proofs.Common.{◌≡◌, ◌+◌, ◌*◌, ◌≤◌, true}
use Rattle.std.specs.Prelude.{slice_index}
use Rattle.bank_tables.specs.Sums.{sum_in}
use Rattle.series_check.proofs.information.uses.Given as goal

abbrev pub invariant-loop-i : goal.invariant-loop-i
invariant-loop-i l =
    record {
      value : l.sum ≡ sum_in l.i (λ _. true) (λ i. slice_index l.sides (256 + i));
      high : l.sum ≤ l.i * 4294967295;
    }
