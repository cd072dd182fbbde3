use Rattle.exam_drill.proofs.LengthLaws.{journals_are_short}
use Rattle.exam_drill.proofs.laws.journals_are_short.Goals as goal

pub returns : goal.returns
returns c = journals_are_short
