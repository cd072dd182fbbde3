use Rattle.std.proofs.Common.{◌≡◌, ◌+◌, ◌*◌, ◌<◌, w64, to_z, of_z, add-one, sym, ap, ◌∙◌, subst, arith}
use Rattle.std.specs.Prelude.{ℤ, ◌+ℤ◌}
use Rattle.certificate_model.specs.Ranges.{IsWithin, at}
use Rattle.lagrange_bound.specs.Ranges.{item_top}
use Rattle.lagrange_bound.proofs.Sums.{summed, summed_within}
use Rattle.bank_tables.specs.Items.{has}
use Rattle.bank_tables.specs.Sums.{sum_in_z}
use Rattle.lagrange_bound.proofs.weights.sum_over.Goals as goal

pub loop-i-preserved : goal.loop-i-preserved
loop-i-preserved c =
    let i = c.loop-i.i in
    let few : i < 512 = omega (arith, c.requires.few) in
    let sum : ℤ = to_z w64 c.loop-i.sum-bits in
    let term : ℤ = c.weight_in-sum.result in
    let e-sum : to_z w64 (of_z w64 (sum +ℤ to_z w64 (of_z w64 term))) ≡ sum +ℤ term = summed (i * item_top) item_top sum term (omega arith) c.loop-i.invariant.within c.weight_in-sum.ensures.within in
    record {
      value = rw add-one (e-sum ∙ ap (λ z. z +ℤ term) c.loop-i.invariant.value ∙ ap (λ z. sum_in_z i (has c.args.items.now) (at c.args.weights.now) +ℤ z) c.weight_in-sum.ensures.value);
      within = subst (IsWithin ((i + 1) * item_top)) (sym e-sum) (summed_within (i * item_top) item_top ((i + 1) * item_top) sum term (omega arith) c.loop-i.invariant.within c.weight_in-sum.ensures.within);
    }
