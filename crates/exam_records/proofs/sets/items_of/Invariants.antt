use Rattle.std.proofs.Common.{◌≡◌, ℕ, ◌*◌, ◌&&◌, ltb}
use Rattle.bank_tables.specs.Items.{has}
use Rattle.exam_records.proofs.SetLaws.{bit_is_set}
use Rattle.exam_records.proofs.sets.items_of.Given as goal

abbrev pub invariant-loop-byte : goal.invariant-loop-byte
invariant-loop-byte l = (i : ℕ) → has l.set i ≡ (ltb i (8 * l.byte) && bit_is_set l.bytes l.at i)
