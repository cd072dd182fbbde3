use Rattle.answer_journal.specs.StandingLaws.{settled_left}
use Rattle.office_trials.proofs.outcome.disk_of.Goals as goal

pub returns : goal.returns
returns g c = settled_left _ _ c.of-disk.ensures.accounts
