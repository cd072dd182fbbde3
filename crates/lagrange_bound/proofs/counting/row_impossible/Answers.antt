use Rattle.std.proofs.Common.{◌∙◌}
use Rattle.bank_tables.specs.Items.{has}
use Rattle.constraint_model.specs.Views.{problem_of}
use Rattle.lagrange_bound.proofs.CountingSteps.{row_is}
use Rattle.lagrange_bound.proofs.counting.row_impossible.Goals as goal

pub returns : goal.returns
returns c p is =
    c.is_outside.ensures
    ∙ row_is (problem_of c.args.problem.now) p c.args.cut.now is c.args.row.now (has c.union-items.result) (has c.union-stimuli.result) c.bounds_of.result.0 c.bounds_of.result.1 c.activity-least.result c.activity-most.result c.union-items.ensures c.union-stimuli.ensures c.bounds_of.ensures.low c.bounds_of.ensures.high c.activity-least.ensures c.activity-most.ensures
