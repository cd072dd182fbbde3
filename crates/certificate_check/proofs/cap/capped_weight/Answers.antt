use Rattle.std.proofs.Common.{◌≡◌, ap, ◌∙◌, w64, to_z, of_z}
use Rattle.std.specs.Prelude.{ℤ, ◌-ℤ◌}
use Rattle.std.proofs.lemmas.Int.{ints}
use Rattle.std.proofs.Common.{arith}
use Rattle.certificate_model.specs.Ranges.{IsWithin, at}
use Rattle.certificate_check.specs.Weights.{item_top}
use Rattle.certificate_check.proofs.cap.capped_weight.Goals as goal

-- the difference of the code doesn't wrap
lowered : (a b : ℤ) → IsWithin item_top a → IsWithin 141835108499456 b → to_z w64 (of_z w64 (to_z w64 (of_z w64 a) -ℤ to_z w64 (of_z w64 b))) ≡ a -ℤ b
lowered a b wa wb = omega (arith, ints)

pub returns-clause-value : goal.returns-clause-value
returns-clause-value c =
    let a : ℤ = at c.args.weights.now c.args.item in
    lowered a c.excess.result c.requires.within c.excess.ensures.within ∙ ap (λ (z : ℤ). a -ℤ z) c.excess.ensures.value
