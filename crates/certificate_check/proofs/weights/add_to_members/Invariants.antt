use Rattle.std.specs.Prelude.{pos, ◌-ℤ◌}
use Rattle.std.proofs.Common.{◌-◌}
use Rattle.bank_tables.specs.Items.{has}
use Rattle.bank_tables.proofs.Walks.{rest_from}
use Rattle.certificate_check.proofs.RowShares.{MembersHave}
use Rattle.certificate_check.proofs.weights.add_to_members.Given as goal

abbrev pub invariant-loop-item : goal.invariant-loop-item
invariant-loop-item l = MembersHave (pos l.low -ℤ pos l.high) (has l.set) (rest_from l.at (has l.set)) l.initial.weights l.weights

abbrev pub decreases-loop-item : goal.decreases-loop-item
decreases-loop-item l = 512 - l.at
