use Rattle.answer_journal.specs.StandingLaws.{settled_left}
use Rattle.serve_trials.proofs.office.empty_disk.Goals as goal

pub returns : goal.returns
returns c = settled_left _ _ c.of.ensures.accounts
