use Rattle.answer_journal.proofs.VersionLaws.{mark_counts}
use Rattle.answer_journal.proofs.laws.mark_counts.Goals as goal

pub returns : goal.returns
returns c = mark_counts
