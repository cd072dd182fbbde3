use Rattle.exam_program.proofs.Completeness.{series_is_complete}
use Rattle.exam_program.proofs.laws.series_is_complete.Goals as goal

pub returns : goal.returns
returns c = series_is_complete
