use Rattle.std.proofs.Common.{◌&&◌, ◌==◌}
use Rattle.bank_tables.specs.Items.{has}
use Rattle.bank_tables.specs.Tables.{stimulus}
use Rattle.certificate_check.proofs.Collected.{IsCollected}
use Rattle.certificate_check.proofs.cut.items_with.Given as goal

abbrev pub invariant-loop-i : goal.invariant-loop-i
invariant-loop-i l = IsCollected l.i (λ j. has l.items j && stimulus l.bank j == l.which) (has l.found)
