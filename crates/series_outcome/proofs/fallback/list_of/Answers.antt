use Rattle.std.proofs.Common.{◌≡◌, take, ◌∙◌, arith}
use Rattle.series_model.specs.Series.{forms_of}
use Rattle.series_check.specs.Cuts.{problem_of}
use Rattle.series_outcome.proofs.ListLaws.{taken_list, taken_forms, same_value}
use Rattle.series_outcome.proofs.fallback.list_of.Goals as goal

pub returns-clause-list : goal.returns-clause-list
returns-clause-list c =
    let is : c.of.result ≡ take c.args.setting.now.forms c.args.known.now.sets = c.of.ensures ∙ c.in_ok-sets.ensures.items in
    taken_list (problem_of c.args.setting.now) c.args.known.now.sets c.of.result is (omega arith) c.requires.series

pub returns-clause-value : goal.returns-clause-value
returns-clause-value c V =
    let Q = problem_of c.args.setting.now in
    let is : c.of.result ≡ take c.args.setting.now.forms c.args.known.now.sets = c.of.ensures ∙ c.in_ok-sets.ensures.items in
    same_value Q (forms_of c.args.known.now.sets) (forms_of c.of.result) (taken_forms Q c.args.known.now.sets c.of.result is) V
