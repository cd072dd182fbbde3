use Rattle.std.proofs.Common.{◌≡◌, ◌<◌, ◌+◌, ◌*◌, true, false, ◌∙◌, to_z, of_z, sym, subst, arith}
use Rattle.std.specs.Prelude.{ℤ, ◌+ℤ◌}
use Rattle.std.specs.Int.{w128}
use Rattle.bank_tables.specs.Items.{has}
use Rattle.certificate_model.specs.Ranges.{IsWithin, at}
use Rattle.series_check.specs.Tops.{item_top}
use Rattle.series_check.proofs.Wide.{wide_top, nearer, both_within, summed, one_in, one_out}
use Rattle.series_check.proofs.top.sum_of.Goals as goal
use Rattle.series_check.proofs.top.sum_of.Goals.{then-has, else-has}

pub loop-i-preserved : goal.loop-i-preserved
loop-i-preserved c =
    let i = c.loop-i.i in
    let X = has c.args.items.now in
    let weights = c.args.weights.now in
    let sum : ℤ = to_z w128 c.loop-i.sum-bits in
    let term : ℤ = at weights i in
    let low : i < 512 = omega (arith, c.loop-i-test.true, c.requires.few) in
    let within : IsWithin item_top term = c.requires.within i c.loop-i-test.true in
    let before = c.loop-i.invariant.within in
    elim c.if-has.branch [
      | then-has w ↦
          let is : X i ≡ true = sym c.has.ensures ∙ w.if-has.true in
          let e-sum : to_z w128 (of_z w128 (sum +ℤ to_z w128 (of_z w128 term))) ≡ sum +ℤ term = summed sum term (nearer (i * 300000000000000000000) wide_top sum (omega arith) before) (nearer item_top wide_top term (omega arith) within) in
          let new : to_z w128 c.if-has.sum-bits ≡ sum +ℤ term = w.sum-is ∙ e-sum in
          record {
            value = one_in i X (at weights) sum (to_z w128 c.if-has.sum-bits) is c.loop-i.invariant.value new;
            within = subst (IsWithin ((i + 1) * 300000000000000000000)) (sym new) (both_within (i * 300000000000000000000) item_top ((i + 1) * 300000000000000000000) sum term (omega arith) before within);
          }
      | else-has w ↦
          let is : X i ≡ false = sym c.has.ensures ∙ w.if-has.false in
          let new : to_z w128 c.if-has.sum-bits ≡ sum = w.sum-is in
          record {
            value = one_out i X (at weights) sum (to_z w128 c.if-has.sum-bits) is c.loop-i.invariant.value new;
            within = subst (IsWithin ((i + 1) * 300000000000000000000)) (sym new) (nearer (i * 300000000000000000000) ((i + 1) * 300000000000000000000) sum (omega arith) before);
          }
    ]
