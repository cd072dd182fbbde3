use Rattle.answer_journal.proofs.VersionLaws.{one_version}
use Rattle.answer_journal.proofs.laws.one_version.Goals as goal

pub returns : goal.returns
returns c = one_version
