use Rattle.std.proofs.Common.{◌≡◌, ◌<◌, ℕ, length, arith, ◌∙◌, w64, to_z, of_z, sym, subst}
use Rattle.std.specs.Prelude.{ℤ, slice_index}
use Rattle.std.proofs.lemmas.Int.{ints}
use Rattle.std.proofs.lemmas.List.{length-set}
use Rattle.constraint_model.specs.Views.{problem_of}
use Rattle.certificate_model.specs.Ranges.{IsWithin}
use Rattle.certificate_check.specs.Weights.{weight_up_to}
use Rattle.certificate_check.proofs.TopLaws.{written}
use Rattle.certificate_check.proofs.weights.plain_weights.Goals as goal

read_back : (z : ℤ) → IsWithin 1099750850560 z → to_z w64 (of_z w64 z) ≡ z
read_back z w = omega (arith, ints)

pub loop-i-preserved : goal.loop-i-preserved
loop-i-preserved c =
    let P = problem_of c.args.problem.now in
    let M : ℕ → ℕ = slice_index c.args.sides.now in
    let term : ℤ = c.plain_weight.result in
    let new : ℤ = to_z w64 (of_z w64 term) in
    let same : new ≡ term = read_back term c.plain_weight.ensures.within in
    let within : c.loop-i.i < length c.loop-i.weights = omega (arith, c.loop-i.invariant.0, c.requires.well_made.bank.few) in (
      length-set c.loop-i.weights c.loop-i.i new ∙ c.loop-i.invariant.0,
      written (λ k z. (z ≡ weight_up_to P M c.args.ray 0 k) × IsWithin 1099750850560 z) c.loop-i.weights c.loop-i.i new within c.loop-i.invariant.1 (same ∙ c.plain_weight.ensures.value, subst (IsWithin 1099750850560) (sym same) c.plain_weight.ensures.within),
    )
