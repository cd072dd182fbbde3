use Rattle.std.proofs.Common.{rules, ◌≡◌, true, false, arith, sym, ◌∙◌, subst, to_z, of_z}
use Rattle.std.specs.Prelude.{ℤ, pos, slice_index}
use Rattle.std.specs.Int.{w128}
use Rattle.std.proofs.Math.Bool.{true≢false}
use Rattle.std.proofs.Math.Path.{fun_ext}
use Rattle.series_model.specs.Series.{SeriesProblem}
use Rattle.series_model.specs.SeriesPools.{goal_of}
use Rattle.series_model.specs.SeriesVerdicts.{MaximumIsBelow}
use Rattle.series_check.specs.Cuts.{problem_of, path_of}
use Rattle.series_check.proofs.LeafLaws.{points_are}
use Rattle.series_check.proofs.leaf.closes.Goals as goal

pub returns-then-points-eq0 : goal.returns-then-points-eq0
returns-then-points-eq0 c v are is =
    let Q : SeriesProblem = problem_of c.args.setting.now in
    let e = points_are Q v (slice_index c.args.sides.now) c.points-points.result (fun_ext are) c.points-points.ensures.value in
    (λ h. absurd (true≢false (sym h)), λ closes. absurd (let some = closes.0 in omega (arith, e, some, c.if-points-eq0.true)))

pub returns : goal.returns
returns c v are is =
    let Q : SeriesProblem = problem_of c.args.setting.now in
    let p = path_of c.args.cut.now in
    let e = points_are Q v (slice_index c.args.sides.now) c.points-points.result (fun_ext are) c.points-points.ensures.value in
    let g : ℤ = c.goal_above-goal.result in
    let plain : to_z w128 (of_z w128 g) ≡ g = search rules in
    let top : to_z w128 (of_z w128 g) ≡ pos (goal_of Q v c.args.bar) = plain ∙ c.goal_above-goal.ensures v are is in
    let below = c.maximum_is_below.ensures v are is in (
      λ h. (omega (arith, e, c.if-points-eq0.false), subst (MaximumIsBelow Q p v false) top (below.0 h)),
      λ closes. below.1 (subst (MaximumIsBelow Q p v false) (sym top) closes.1),
    )
