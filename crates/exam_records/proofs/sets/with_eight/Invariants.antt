use Rattle.bank_tables.specs.Items.{has}
use Rattle.exam_records.proofs.SetLaws.{HasBits}
use Rattle.exam_records.proofs.sets.with_eight.Given as goal

abbrev pub invariant-loop-place : goal.invariant-loop-place
invariant-loop-place l = HasBits (has l.fn.set) l.first l.bits l.place (has l.set)
