use Rattle.answer_journal.proofs.VersionLaws.{counted_goes_on}
use Rattle.answer_journal.proofs.laws.counted_goes_on.Goals as goal

pub returns : goal.returns
returns c = counted_goes_on
