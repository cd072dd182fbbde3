use Rattle.exam_records.proofs.AgainLaws.{all_is_read, written_is_read as old_is_read}
use Rattle.exam_records.proofs.SecondLaws.{written_is_read}
use Rattle.exam_records.proofs.laws.written_is_read.Goals as goal

pub returns-clause-read : goal.returns-clause-read
returns-clause-read c = written_is_read

pub returns-clause-old_read : goal.returns-clause-old_read
returns-clause-old_read c = old_is_read

pub returns-clause-old_all : goal.returns-clause-old_all
returns-clause-old_all c = all_is_read
