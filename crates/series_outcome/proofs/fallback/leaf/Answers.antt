use Rattle.std.proofs.Common.{sym, ◌∙◌}
use Rattle.std.proofs.Math.Bool.{true≢false}
use Rattle.series_check.specs.Cuts.{problem_of, path_of}
use Rattle.series_outcome.specs.Searches.{value_known}
use Rattle.series_outcome.proofs.LeafLaws.{count_ends, whole_ends, goes_on}
use Rattle.series_outcome.proofs.fallback.leaf.Goals as goal

pub returns-in-Some-clause-leaf : goal.returns-in-Some-clause-leaf
returns-in-Some-clause-leaf c = count_ends (problem_of c.args.setting.now) (path_of c.args.cut.now) (value_known c.args.best.now) c.in-Some.which c.requires.problem c.in-Some.ensures

pub returns-then-is_whole-clause-leaf : goal.returns-then-is_whole-clause-leaf
returns-then-is_whole-clause-leaf c = whole_ends (problem_of c.args.setting.now) (path_of c.args.cut.now) (value_known c.args.best.now) (value_known c.better.result) (c.is_whole.ensures.0 c.if-is_whole.true) c.better.ensures.no_worse c.better.ensures.settled

pub returns-clause-leaf : goal.returns-clause-leaf
returns-clause-leaf c = goes_on (problem_of c.args.setting.now) (path_of c.args.cut.now) (value_known c.args.best.now) c.in_default.ensures (λ whole. true≢false (sym (c.is_whole.ensures.1 whole) ∙ c.if-is_whole.false))
