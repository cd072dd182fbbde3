use Rattle.exam_program.proofs.Completeness.{drill_is_complete}
use Rattle.exam_program.proofs.laws.drill_is_complete.Goals as goal

pub returns : goal.returns
returns c = drill_is_complete
