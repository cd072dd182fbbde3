use Rattle.exam_drill.proofs.LengthLaws.{frames_are_short}
use Rattle.exam_drill.proofs.laws.frames_are_short.Goals as goal

pub returns : goal.returns
returns c = frames_are_short
