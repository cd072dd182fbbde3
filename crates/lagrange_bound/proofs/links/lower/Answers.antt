use Rattle.std.proofs.Common.{◌≡◌, ◌≢◌, ℕ, List, ◌<◌, length, w64, to_z, of_z, ap, ◌∙◌, arith}
use Rattle.std.specs.Prelude.{ℤ, pos, ◌+ℤ◌, ◌-ℤ◌}
use Rattle.std.proofs.lemmas.Int.{ints}
use Rattle.std.proofs.lemmas.List.{get_or-set_other}
use Rattle.certificate_model.specs.Ranges.{at}
use Rattle.lagrange_bound.specs.Ranges.{excess_top}
use Rattle.lagrange_bound.proofs.Linked.{filled}
use Rattle.lagrange_bound.proofs.Sums.{negated}
use Rattle.lagrange_bound.proofs.links.lower.Goals as goal

pub loop-i-preserved : goal.loop-i-preserved
loop-i-preserved c =
    let i = c.loop-i.i in
    let xs : List ℤ = c.loop-i.weights in
    let off : ℤ = at c.args.by.now i in
    let x : ℤ = at xs i +ℤ to_z w64 (of_z w64 (pos 0 -ℤ to_z w64 (of_z w64 off))) in
    let less : to_z w64 (of_z w64 (pos 0 -ℤ to_z w64 (of_z w64 off))) ≡ pos 0 -ℤ off = negated excess_top off (omega arith) (c.requires.by i c.loop-i-test.true) in
    let before : at xs i ≡ at c.args.weights.now i = c.loop-i.invariant.rest i (omega arith) in
    let here : x ≡ at c.args.weights.now i -ℤ off = omega (arith, ints) in
    let place : i < length xs = omega (arith, c.loop-i.invariant.whole, c.requires.few) in
    record {
      whole = c.raise.array_long;
      done = λ j w.
          ap (λ (ys : List ℤ). at ys j) c.raise.ensures
          ∙ filled (λ (k : ℕ) (z : ℤ). z ≡ at c.args.weights.now k -ℤ at c.args.by.now k) xs i x place c.loop-i.invariant.done here j w;
      rest = λ j w.
          let other : j ≢ i = λ e. omega arith in
          ap (λ (ys : List ℤ). at ys j) c.raise.ensures ∙ get_or-set_other xs i j x (pos 0) other ∙ c.loop-i.invariant.rest j (omega arith);
    }
