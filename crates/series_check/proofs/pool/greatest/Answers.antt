use Rattle.std.proofs.Common.{◌≡◌, ◌<◌, length, arith, ◌∙◌, to_z, of_z, sym, subst}
use Rattle.std.specs.Prelude.{ℤ}
use Rattle.std.specs.Int.{w128}
use Rattle.std.proofs.lemmas.List.{length-set}
use Rattle.bank_tables.specs.Items.{has}
use Rattle.certificate_model.specs.Ranges.{IsWithin, at}
use Rattle.certificate_check.proofs.TopLaws.{written}
use Rattle.series_check.specs.Pools.{held_count, IsGreater}
use Rattle.series_check.specs.Tops.{item_top}
use Rattle.series_check.proofs.PoolStepLaws.{greater_near}
use Rattle.series_check.proofs.Wide.{wide_top, nearer, read_back}
use Rattle.series_check.proofs.pool.greatest.Goals as goal

pub loop-i-preserved : goal.loop-i-preserved
loop-i-preserved c =
    let i = c.loop-i.i in
    let first = c.args.first.now in
    let second = c.args.second.now in
    let term : ℤ = c.greater.result in
    let new : ℤ = to_z w128 (of_z w128 term) in
    let is : IsGreater (held_count first i) (held_count second i) term =
    subst (λ o. IsGreater o (held_count second i) term) c.held_count-one.ensures (subst (λ o. IsGreater c.held_count-one.result o term) c.held_count-two.ensures c.greater.ensures) in
    let near : IsWithin item_top term = greater_near (has first.holds i) (has second.holds i) (at first.counts i) (at second.counts i) term (c.requires.first i c.loop-i-test.true) (c.requires.second i c.loop-i-test.true) is in
    let same : new ≡ term = read_back term (nearer item_top wide_top term (omega arith) near) in
    let within : i < length c.loop-i.counts = omega (arith, c.loop-i.invariant.0, c.loop-i-test.true, c.requires.few) in (
      length-set c.loop-i.counts i new ∙ c.loop-i.invariant.0,
      written (λ k z. IsGreater (held_count first k) (held_count second k) z × IsWithin item_top z) c.loop-i.counts i new within c.loop-i.invariant.1
          (subst (IsGreater (held_count first i) (held_count second i)) (sym same) is, subst (IsWithin item_top) (sym same) near),
    )
