use Rattle.std.proofs.Common.{◌≡◌, ℕ, ◌||◌, ◌&&◌}
use Rattle.std.specs.Prelude.{nat_le, nat_lt}
use Rattle.bank_tables.specs.Items.{has}
use Rattle.spec_reader.proofs.sets.with_run.Given as goal

abbrev pub invariant-loop-item : goal.invariant-loop-item
invariant-loop-item l = (i : ℕ) → has l.all i ≡ (has l.fn.set i || (nat_le l.low i && nat_lt i l.item))
