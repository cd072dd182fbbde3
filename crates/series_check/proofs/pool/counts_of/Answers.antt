use Rattle.std.proofs.Common.{◌≡◌, ◌<◌, length, arith, ap, ◌∙◌, to_z, of_z, sym, subst}
use Rattle.std.specs.Prelude.{ℤ, ◌-ℤ◌}
use Rattle.std.specs.Int.{w128}
use Rattle.std.proofs.lemmas.List.{length-set}
use Rattle.certificate_model.specs.Ranges.{IsWithin, at}
use Rattle.certificate_check.proofs.TopLaws.{written}
use Rattle.series_check.specs.Tops.{item_top}
use Rattle.series_check.proofs.Wide.{wide_top, nearer, read_back, less_near, less_read}
use Rattle.series_check.proofs.pool.counts_of.Goals as goal

pub loop-i-preserved : goal.loop-i-preserved
loop-i-preserved c =
    let i = c.loop-i.i in
    let weight : ℤ = at c.args.weights.now i in
    let price : ℤ = c.args.price in
    let new : ℤ = to_z w128 (of_z w128 (to_z w128 (of_z w128 weight) -ℤ to_z w128 (of_z w128 price))) in
    let own : IsWithin 299000000000000000000 weight = c.requires.within i c.loop-i-test.true in
    let same : new ≡ weight -ℤ price = less_read weight price own c.requires.price in
    let near : IsWithin item_top new = subst (IsWithin item_top) (sym same) (less_near weight price own c.requires.price) in
    let plain : to_z w128 (of_z w128 price) ≡ price = read_back price (nearer 4294967295 wide_top price (omega arith) c.requires.price) in
    let read : new ≡ weight -ℤ to_z w128 (of_z w128 price) = same ∙ ap (λ (z : ℤ). weight -ℤ z) (sym plain) in
    let within : i < length c.loop-i.counts = omega (arith, c.loop-i.invariant.0, c.loop-i-test.true, c.requires.few) in (
      length-set c.loop-i.counts i new ∙ c.loop-i.invariant.0,
      written (λ k z. (z ≡ at c.args.weights.now k -ℤ to_z w128 (of_z w128 price)) × IsWithin item_top z) c.loop-i.counts i new within c.loop-i.invariant.1 (read, near),
    )
