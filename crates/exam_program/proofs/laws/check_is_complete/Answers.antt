use Rattle.exam_program.proofs.Completeness.{check_is_complete}
use Rattle.exam_program.proofs.laws.check_is_complete.Goals as goal

pub returns : goal.returns
returns c = check_is_complete
