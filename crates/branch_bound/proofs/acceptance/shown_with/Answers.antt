use Rattle.constraint_model.specs.Views.{problem_of}
use Rattle.branch_bound.proofs.OutcomeLaws.{firm_shown}
use Rattle.branch_bound.proofs.acceptance.shown_with.Goals as goal

pub returns-else-not-spent : goal.returns-else-not-spent
returns-else-not-spent c =
    firm_shown (problem_of c.args.problem.now) c.args.tree.now c.args.budget c.args.form c.firm.result c.in-Partial.field-0 c.in-Partial.ensures.verdict (c.spent.ensures.0 c.if-not-spent.false) c.firm.ensures.firm c.firm.ensures.no_worse
