use Rattle.history_model.proofs.JudgingLaws.{backed_is_legal_run}
use Rattle.history_model.proofs.laws.backed_is_legal_run.Goals as goal

pub returns : goal.returns
returns c = backed_is_legal_run
