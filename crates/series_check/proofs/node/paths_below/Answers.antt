use Rattle.std.proofs.Common.{subst}
use Rattle.series_model.specs.SeriesVerdicts.{IsSound}
use Rattle.series_check.specs.Cuts.{problem_of, path_of}
use Rattle.series_check.proofs.UsedLaws.{use_within}
use Rattle.series_check.proofs.node.paths_below.Goals as goal

pub below_use-requires-clause-item : goal.below_use-requires-clause-item
below_use-requires-clause-item c =
    use_within (problem_of c.args.setting.now) (path_of c.args.cut.now) _ c.requires.problem
    (subst (IsSound (problem_of c.args.setting.now) c.args.bar.now c.args.tree.now (path_of c.args.cut.now)) c.in-Use.is c.requires.sound)

pub below_use-requires-in-Use-clause-item : goal.below_use-requires-in-Use-clause-item
below_use-requires-in-Use-clause-item c =
    use_within (problem_of c.args.setting.now) (path_of c.args.cut.now) _ c.requires.problem
    (subst (IsSound (problem_of c.args.setting.now) c.args.bar.now c.args.tree.now (path_of c.args.cut.now)) c.in-Use.is c.requires.sound)
