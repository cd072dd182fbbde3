use Rattle.std.proofs.Common.{rules}
use Rattle.shadow_select.proofs.problem.next_problem.Goals as goal

pub next_problem_from-requires-clause-sums : goal.next_problem_from-requires-clause-sums
next_problem_from-requires-clause-sums c = search rules
