use Rattle.history_model.proofs.JudgingLaws.{one_problem}
use Rattle.history_model.proofs.laws.one_problem.Goals as goal

pub returns : goal.returns
returns c = one_problem
