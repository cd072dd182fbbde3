use Rattle.std.proofs.Common.{◌≡◌, ◌*◌, ◌≤◌, cond, get_or}
use Rattle.bank_tables.specs.Items.{has}
use Rattle.bank_tables.specs.Sums.{sum_in}
use Rattle.certificate_check.proofs.counting.two_sums.Given as goal

abbrev pub invariant-loop-i : goal.invariant-loop-i
invariant-loop-i l =
    record {
      one : l.one ≡ sum_in l.i (has l.first) (λ i. cond (has l.set i) (get_or l.values i 0) 0);
      one_few : l.one ≤ l.i * 65535;
      other : l.other ≡ sum_in l.i (has l.second) (λ i. cond (has l.set i) (get_or l.values i 0) 0);
      other_few : l.other ≤ l.i * 65535;
    }
