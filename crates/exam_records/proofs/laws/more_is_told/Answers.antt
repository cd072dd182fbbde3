use Rattle.exam_records.proofs.AgainLaws.{more_is_told as old_more_is_told}
use Rattle.exam_records.proofs.SecondLaws.{more_is_told}
use Rattle.exam_records.proofs.laws.more_is_told.Goals as goal

pub returns-clause-more : goal.returns-clause-more
returns-clause-more c = more_is_told

pub returns-clause-old_more : goal.returns-clause-old_more
returns-clause-old_more c = old_more_is_told
