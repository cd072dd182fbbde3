use Rattle.exam_program.proofs.Completeness.{serve_is_complete}
use Rattle.exam_program.proofs.laws.serve_is_complete.Goals as goal

pub returns : goal.returns
returns c = serve_is_complete
