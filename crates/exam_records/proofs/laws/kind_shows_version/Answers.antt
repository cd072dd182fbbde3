use Rattle.exam_records.proofs.VersionLaws.{no_kind, no_old_kind, same_kind}
use Rattle.exam_records.proofs.laws.kind_shows_version.Goals as goal

pub returns-clause-none : goal.returns-clause-none
returns-clause-none c = no_kind

pub returns-clause-old_none : goal.returns-clause-old_none
returns-clause-old_none c = no_old_kind

pub returns-clause-both : goal.returns-clause-both
returns-clause-both c = same_kind
