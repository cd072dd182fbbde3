use Rattle.std.proofs.Common.{◌≡◌, ◌<◌, length, arith, ◌∙◌, w64, to_z, of_z, sym, subst}
use Rattle.std.specs.Prelude.{ℤ, ◌-ℤ◌, List}
use Rattle.std.proofs.lemmas.Int.{ints}
use Rattle.std.proofs.lemmas.List.{length-set}
use Rattle.certificate_model.specs.Ranges.{IsWithin, at}
use Rattle.certificate_check.specs.Costs.{margin_top}
use Rattle.certificate_check.proofs.TopLaws.{written}
use Rattle.certificate_check.proofs.costs.margins_of.Goals as goal

read_back : (z : ℤ) → IsWithin margin_top z → to_z w64 (of_z w64 z) ≡ z
read_back z w = omega (arith, ints)

pub loop-i-preserved : goal.loop-i-preserved
loop-i-preserved c =
    let weights : List ℤ = c.args.weights.now in
    let term : ℤ = c.margin_at.result in
    let new : ℤ = to_z w64 (of_z w64 term) in
    let same : new ≡ term = read_back term c.margin_at.ensures.within in
    let price : ℤ = to_z w64 (of_z w64 c.args.place_price) in
    let within : c.loop-i.i < length c.loop-i.margins = omega (arith, c.loop-i.invariant.0, c.requires.well_made.bank.few) in (
      length-set c.loop-i.margins c.loop-i.i new ∙ c.loop-i.invariant.0,
      written (λ k z. (z ≡ at weights k -ℤ price) × IsWithin margin_top z) c.loop-i.margins c.loop-i.i new within c.loop-i.invariant.1 (same ∙ c.margin_at.ensures.value, subst (IsWithin margin_top) (sym same) c.margin_at.ensures.within),
    )
