use Rattle.std.proofs.Common.{cond, get_or}
use Rattle.std.specs.Prelude.{pos, ◌-ℤ◌, ◌*ℤ◌}
use Rattle.bank_tables.specs.Items.{has}
use Rattle.certificate_check.proofs.RowShares.{AreAdded}
use Rattle.certificate_check.proofs.weights.add_values.Given as goal

abbrev pub invariant-loop-i : goal.invariant-loop-i
invariant-loop-i l = AreAdded (λ h. (pos l.low -ℤ pos l.high) *ℤ pos (cond (has l.set h) (get_or l.values h 0) 0)) l.initial.weights l.weights l.i
