use Rattle.exam_records.proofs.SetLaws.{numbers_len, byte_bits}
use Rattle.exam_records.proofs.laws.a_bit_for_each_item.Goals as goal

pub returns-clause-length : goal.returns-clause-length
returns-clause-length c X = numbers_len 64 8 X

pub returns-clause-bits : goal.returns-clause-bits
returns-clause-bits c X i lt = byte_bits X i lt
