use Rattle.std.proofs.Common.{◌≡◌}
use Rattle.bank_tables.specs.Items.{has}
use Rattle.bank_tables.specs.Sums.{any_below}
use Rattle.certificate_check.proofs.candidate.has_members.Given as goal

abbrev pub invariant-loop-i : goal.invariant-loop-i
invariant-loop-i l = l.found ≡ any_below l.i (has l.items)
