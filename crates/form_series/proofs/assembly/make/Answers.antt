use Rattle.series_check.specs.Cuts.{problem_of}
use Rattle.form_series.proofs.assembly.make.Goals as goal

pub returns-clause-shown : goal.returns-clause-shown
returns-clause-shown c =
    c.in_ok-outcome-2.ensures.shown (problem_of c.args.setting.now) c.in_ok-outcome.field-0.tree c.args.budget c.in_ok-outcome.ensures.shown

pub returns-clause-order : goal.returns-clause-order
returns-clause-order c =
    c.in_ok-outcome-2.ensures.order (problem_of c.args.setting.now) c.in_ok-outcome.field-0.tree c.args.budget c.requires.problem.bank c.in_ok-outcome.ensures.shown
