use Rattle.exam_office.proofs.MigratingLaws.{migrate_is_complete}
use Rattle.exam_office.proofs.laws.migrate_is_complete.Goals as goal

pub returns : goal.returns
returns c = migrate_is_complete
