use Rattle.exam_records.proofs.AgainLaws.{one_spelling as old_spelling}
use Rattle.exam_records.proofs.SecondLaws.{one_spelling}
use Rattle.exam_records.proofs.laws.one_spelling.Goals as goal

pub returns-clause-spelled : goal.returns-clause-spelled
returns-clause-spelled c = one_spelling

pub returns-clause-old_spelled : goal.returns-clause-old_spelled
returns-clause-old_spelled c = old_spelling
