use Rattle.exam_office.proofs.FileLaws.{standing_is_read}
use Rattle.exam_office.proofs.laws.standing_is_read.Goals as goal

pub returns : goal.returns
returns c = standing_is_read
