use Rattle.exam_program.proofs.Completeness.{follow_is_complete}
use Rattle.exam_program.proofs.laws.follow_is_complete.Goals as goal

pub returns : goal.returns
returns c = follow_is_complete
