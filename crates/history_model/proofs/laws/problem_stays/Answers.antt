use Rattle.history_model.proofs.ProblemStaying.{problem_stays}
use Rattle.history_model.proofs.laws.problem_stays.Goals as goal

pub returns : goal.returns
returns c = problem_stays
