use Rattle.std.proofs.Common.{◌≡◌, ◌+◌, ◌*◌, ◌<◌, length, get_or, ◌∙◌, arith, refl}
use Rattle.std.proofs.lemmas.List.{length-set}
use Rattle.series_check.proofs.SideLaws.{own_sides, number_written}
use Rattle.series_check.proofs.sides.form_sides.Goals as goal

pub loop-side-preserved : goal.loop-side-preserved
loop-side-preserved c =
    let within : c.loop-side.side < length c.loop-side.own = omega (arith, c.loop-side.invariant.0) in (
      length-set c.loop-side.own c.loop-side.side _ ∙ c.loop-side.invariant.0,
      number_written (λ k n. n ≡ get_or c.args.sides.now (768 + 384 * c.args.form + k) 0) c.loop-side.own c.loop-side.side _ within c.loop-side.invariant.1 refl,
    )

pub returns : goal.returns
returns c =
    λ v are. own_sides c.args.form v c.args.sides.now c.loop-side.own c.loop-side.invariant.0 are (λ k w. c.loop-side.invariant.1 k (omega (arith, c.loop-side-test.false)))
