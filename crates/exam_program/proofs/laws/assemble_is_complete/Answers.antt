use Rattle.exam_program.proofs.Completeness.{assemble_is_complete}
use Rattle.exam_program.proofs.laws.assemble_is_complete.Goals as goal

pub returns : goal.returns
returns c = assemble_is_complete
