use Rattle.answer_journal.specs.StandingLaws.{settled_left}
use Rattle.serve_trials.proofs.answers.disk_of.Goals as goal

pub returns : goal.returns
returns c = settled_left _ _ c.of.ensures.accounts
