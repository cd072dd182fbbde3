use Rattle.std.proofs.Common.{◌≡◌}
use Rattle.bank_tables.specs.Items.{has}
use Rattle.exam_records.specs.Sets.{number_of}
use Rattle.exam_records.proofs.sets.eight_items.Given as goal

abbrev pub invariant-loop-place : goal.invariant-loop-place
invariant-loop-place l = l.bits ≡ number_of l.place (has l.set) l.first
