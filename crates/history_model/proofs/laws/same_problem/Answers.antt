use Rattle.history_model.proofs.ProblemStaying.{same_problem}
use Rattle.history_model.proofs.laws.same_problem.Goals as goal

pub returns : goal.returns
returns c = same_problem
