use Rattle.std.proofs.Common.{sym, subst}
use Rattle.series_model.specs.SeriesVerdicts.{IsSound}
use Rattle.series_check.specs.Cuts.{problem_of, path_of}
use Rattle.series_check.proofs.node.is_sound.Goals as goal

pub returns-in-Count : goal.returns-in-Count
returns-in-Count c =
    let Q = problem_of c.args.setting.now in
    let U = c.args.bar.now in
    let T = c.args.tree.now in
    let p = path_of c.args.cut.now in
    let counted = c.is_counted_out.ensures U T in (
      λ h. subst (IsSound Q U T p) (sym c.in-Count.is) (counted.0 h),
      λ sound. counted.1 (subst (IsSound Q U T p) c.in-Count.is sound),
    )
