use Rattle.std.proofs.Common.{◌≡◌, ◌*◌, ◌≤◌}
use Rattle.bank_tables.specs.Items.{has}
use Rattle.bank_tables.specs.Tables.{info}
use Rattle.bank_tables.specs.Sums.{sum_in}
use Rattle.constraint_model.proofs.information.objective.Given as goal

-- the sum over the items so far
abbrev pub invariant-loop-i : goal.invariant-loop-i
invariant-loop-i l =
    record {
      value : l.sum ≡ sum_in l.i (has l.form) (λ i. info l.problem.bank.now i l.problem.theta);
      small : l.sum ≤ l.i * 1000000;
    }
