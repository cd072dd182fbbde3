use Rattle.constraint_model.specs.Views.{problem_of}
use Rattle.lagrange_bound.proofs.cut.Cut.with_stimulus.Goals as goal

pub returns-then-chosen : goal.returns-then-chosen
returns-then-chosen c p is = rw c.if-chosen.true (c.with_chosen.ensures (problem_of c.args.problem.now) p is)

pub returns-else-chosen : goal.returns-else-chosen
returns-else-chosen c p is = rw c.if-chosen.false (c.with_dropped.ensures p is)
