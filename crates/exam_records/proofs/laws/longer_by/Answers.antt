use Rattle.exam_records.proofs.VersionLaws.{longer_by}
use Rattle.exam_records.proofs.laws.longer_by.Goals as goal

pub returns : goal.returns
returns c = longer_by
