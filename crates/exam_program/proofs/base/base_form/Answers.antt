use Rattle.std.proofs.Common.{sym, ◌∙◌}
use Rattle.constraint_model.specs.Views.{problem_of}
use Rattle.exam_program.specs.Bases.{of_plan, assembled}
use Rattle.exam_program.proofs.base.base_form.Goals as goal

pub returns-in-Some-clause-base : goal.returns-in-Some-clause-base
returns-in-Some-clause-base c = of_plan c.in-Some.base (sym c.base.ensures ∙ c.in-Some.is)

pub returns-clause-base : goal.returns-clause-base
returns-clause-base c = assembled (problem_of c.in_ok-found.found.0.problem) c.in_ok-found.found.1 c.in_ok-found.found.2 c.in_ok-found.found.0.tree (sym c.base.ensures ∙ c.in_default.is) c.in_ok-found.ensures.found
