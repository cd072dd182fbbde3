use Rattle.exam_program.proofs.Completeness.{ship_is_complete}
use Rattle.exam_program.proofs.laws.ship_is_complete.Goals as goal

pub returns : goal.returns
returns c = ship_is_complete
