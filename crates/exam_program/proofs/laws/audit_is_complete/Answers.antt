use Rattle.exam_program.proofs.Completeness.{audit_is_complete}
use Rattle.exam_program.proofs.laws.audit_is_complete.Goals as goal

pub returns : goal.returns
returns c = audit_is_complete
