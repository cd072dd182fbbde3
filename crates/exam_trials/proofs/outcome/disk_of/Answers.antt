use Rattle.answer_journal.specs.StandingLaws.{settled_left}
use Rattle.exam_trials.proofs.outcome.disk_of.Goals as goal

pub returns : goal.returns
returns g c = settled_left _ _ c.of.ensures.accounts
