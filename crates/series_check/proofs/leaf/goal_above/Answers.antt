use Rattle.std.proofs.Common.{◌≡◌, ℕ, ◌+◌, ◌*◌, Bool, cond, arith, ap, ◌∙◌, sym, subst, to_z}
use Rattle.std.specs.Prelude.{pos, slice_index}
use Rattle.std.specs.Int.{w128}
use Rattle.std.proofs.Math.Path.{fun_ext}
use Rattle.series_model.specs.Series.{SeriesProblem}
use Rattle.series_model.specs.SeriesBounds.{points}
use Rattle.series_model.specs.SeriesPools.{least_of_pool}
use Rattle.series_check.specs.Cuts.{problem_of}
use Rattle.series_check.proofs.LeafLaws.{least_are, points_are}
use Rattle.series_check.proofs.Wide.{goal_fits, wide_unsigned}
use Rattle.series_check.proofs.leaf.goal_above.Goals as goal

pub returns-then-pool : goal.returns-then-pool
returns-then-pool c v are e =
    let Q : SeriesProblem = problem_of c.args.setting.now in
    let n = c.least_of_pool.result in
    let is : n ≡ least_of_pool Q v c.args.bar = least_are Q v (slice_index c.args.sides.now) c.args.bar n (fun_ext are) c.least_of_pool.ensures.value in
    subst (λ (b : Bool). to_z w128 n ≡ pos (cond b (least_of_pool Q v c.args.bar) (points Q v * (c.args.bar + 1)))) (sym c.if-pool.true ∙ e)
    (wide_unsigned n c.least_of_pool.ensures.high ∙ ap (λ (m : ℕ). pos m) is)

pub returns-else-pool : goal.returns-else-pool
returns-else-pool c v are e =
    let Q : SeriesProblem = problem_of c.args.setting.now in
    let n = c.args.points in
    let is : n ≡ points Q v = points_are Q v (slice_index c.args.sides.now) n (fun_ext are) c.requires.points in
    let fits = goal_fits n (c.args.bar + 1) c.requires.few (omega (arith, c.ranges.bar.fits)) in
    subst (λ (b : Bool). to_z w128 (n * (c.args.bar + 1)) ≡ pos (cond b (least_of_pool Q v c.args.bar) (points Q v * (c.args.bar + 1)))) (sym c.if-pool.false ∙ e)
    (fits ∙ ap (λ (k : ℕ). pos (k * (c.args.bar + 1))) is)
