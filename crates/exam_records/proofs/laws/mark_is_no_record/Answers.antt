use Rattle.exam_records.proofs.VersionLaws.{is_no_mark, is_no_old_mark}
use Rattle.exam_records.proofs.laws.mark_is_no_record.Goals as goal

pub returns-clause-mark : goal.returns-clause-mark
returns-clause-mark c = is_no_mark

pub returns-clause-old_mark : goal.returns-clause-old_mark
returns-clause-old_mark c = is_no_old_mark
