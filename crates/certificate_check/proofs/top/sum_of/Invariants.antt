use Rattle.std.proofs.Common.{◌≡◌, ◌-◌}
use Rattle.std.specs.Prelude.{◌+ℤ◌}
use Rattle.bank_tables.specs.Items.{has}
use Rattle.bank_tables.specs.Sums.{sum_in_z}
use Rattle.bank_tables.proofs.Walks.{rest_from}
use Rattle.certificate_model.specs.Ranges.{at}
use Rattle.certificate_check.proofs.top.sum_of.Given as goal

-- the sum so far, and that of the members that are left
abbrev pub invariant-loop-item : goal.invariant-loop-item
invariant-loop-item l = l.sum +ℤ sum_in_z l.n (rest_from l.at (has l.items)) (at l.weights) ≡ sum_in_z l.n (has l.items) (at l.weights)

abbrev pub decreases-loop-item : goal.decreases-loop-item
decreases-loop-item l = 512 - l.at
