use Rattle.std.proofs.Common.{◌≡◌, ◌<◌, length, arith, ◌∙◌, w64, to_z, of_z, sym, subst}
use Rattle.std.specs.Prelude.{ℤ, ◌-ℤ◌, slice_index, List}
use Rattle.std.proofs.lemmas.Int.{ints}
use Rattle.std.proofs.lemmas.List.{length-set}
use Rattle.certificate_model.specs.Paths.{Path}
use Rattle.certificate_model.specs.Ranges.{IsWithin, at}
use Rattle.constraint_model.specs.Views.{problem_of}
use Rattle.certificate_check.specs.Cuts.{path_of}
use Rattle.certificate_check.specs.Weights.{item_top, excess_at}
use Rattle.certificate_check.proofs.TopLaws.{written}
use Rattle.certificate_check.proofs.cap.capped_weights.Goals as goal

read_back : (z : ℤ) → IsWithin item_top z → to_z w64 (of_z w64 z) ≡ z
read_back z w = omega (arith, ints)

pub loop-i-preserved : goal.loop-i-preserved
loop-i-preserved c =
    let P = problem_of c.args.problem.now in
    let p : Path = path_of c.args.standing.now.cut in
    let weights : List ℤ = c.args.weights.now in
    let term : ℤ = c.capped_weight.result in
    let new : ℤ = to_z w64 (of_z w64 term) in
    let same : new ≡ term = read_back term c.capped_weight.ensures.within in
    let within : c.loop-i.i < length c.loop-i.capped = omega (arith, c.loop-i.invariant.0, c.requires.well_made.bank.few) in (
      length-set c.loop-i.capped c.loop-i.i new ∙ c.loop-i.invariant.0,
      written (λ k z. (z ≡ at weights k -ℤ excess_at P p (slice_index c.args.sides.now) weights k) × IsWithin item_top z) c.loop-i.capped c.loop-i.i new within c.loop-i.invariant.1
          (same ∙ c.capped_weight.ensures.value, subst (IsWithin item_top) (sym same) c.capped_weight.ensures.within),
    )
