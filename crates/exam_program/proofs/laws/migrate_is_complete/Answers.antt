use Rattle.exam_program.proofs.Completeness.{migrate_is_complete}
use Rattle.exam_program.proofs.laws.migrate_is_complete.Goals as goal

pub returns : goal.returns
returns c = migrate_is_complete
