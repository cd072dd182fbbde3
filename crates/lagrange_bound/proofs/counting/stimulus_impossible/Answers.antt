use Rattle.std.proofs.Common.{◌-◌, List, get_or, ap, ◌∙◌}
use Rattle.constraint_model.specs.Views.{problem_of}
use Rattle.lagrange_bound.proofs.CountingSteps.{stimulus_is}
use Rattle.form_model.specs.declared.row.StimulusBound.{StimulusBound}
use Rattle.lagrange_bound.proofs.counting.stimulus_impossible.Goals as goal

pub returns : goal.returns
returns c p is =
    let P = problem_of c.args.problem.now in
    c.is_outside.ensures
    ∙ stimulus_is P p c.args.cut.now is c.args.which (get_or c.bounds.result.now (c.args.which - 1) (record { low = 0; high = 0 })) c.args.least c.args.most c.has.result (ap (λ (xs : List StimulusBound). get_or xs (c.args.which - 1) (record { low = 0; high = 0 })) c.bounds.ensures) c.requires.least c.requires.most c.has.ensures
