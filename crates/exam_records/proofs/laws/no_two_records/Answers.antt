use Rattle.exam_records.proofs.AgainLaws.{no_two_records as no_two_old}
use Rattle.exam_records.proofs.SecondLaws.{no_two_records}
use Rattle.exam_records.proofs.laws.no_two_records.Goals as goal

pub returns-clause-one : goal.returns-clause-one
returns-clause-one c = no_two_records

pub returns-clause-old_one : goal.returns-clause-old_one
returns-clause-old_one c = no_two_old
