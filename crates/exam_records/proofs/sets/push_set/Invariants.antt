use Rattle.std.proofs.Common.{◌≡◌, ◌*◌, ◌++◌}
use Rattle.bank_tables.specs.Items.{has}
use Rattle.exam_records.specs.Sets.{numbers_of}
use Rattle.exam_records.proofs.sets.push_set.Given as goal

abbrev pub invariant-loop-word : goal.invariant-loop-word
invariant-loop-word l = l.out.items ≡ l.fn.out.items ++ numbers_of (8 * l.word) 8 (has l.set)
