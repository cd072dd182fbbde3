use Rattle.std.proofs.Common.{◌≡◌, ◌+◌, ◌*◌, ◌<◌, w64, to_z, of_z, add-one, sym, ap, ◌∙◌, subst, arith, rules}
use Rattle.std.specs.Prelude.{ℤ, ◌+ℤ◌}
use Rattle.std.proofs.lemmas.Int.{ints}
use Rattle.bank_tables.specs.Sums.{total_z}
use Rattle.certificate_model.specs.Ranges.{IsWithin, at}
use Rattle.lagrange_bound.proofs.Sums.{summed, summed_within}
use Rattle.lagrange_bound.specs.Fills.{excess}
use Rattle.lagrange_bound.proofs.threshold.excess_over.Goals as goal

pub loop-i-preserved : goal.loop-i-preserved
loop-i-preserved c =
    let i = c.loop-i.i in
    let few : i < 512 = omega (arith, c.requires.few) in
    let sum : ℤ = to_z w64 c.loop-i.sum-bits in
    let term : ℤ = c.excess_of-sum.result in
    let t : ℤ = to_z w64 (of_z w64 c.args.threshold) in
    let weight : ℤ = at c.args.weights.now i in
    let range = c.requires.weights i c.loop-i-test.true in
    let same : to_z w64 (of_z w64 weight) ≡ weight = omega (arith, ints, range.low, range.high) in
    let e-sum : to_z w64 (of_z w64 (sum +ℤ to_z w64 (of_z w64 term))) ≡ sum +ℤ term = summed (i * 281474976710656) 281474976710656 sum term (omega arith) c.loop-i.invariant.within c.excess_of-sum.ensures.within in
    let e-term : term ≡ excess t weight = c.excess_of-sum.ensures.value ∙ ap (λ (z : ℤ). excess t z) same in
    record {
      value = rw add-one (e-sum ∙ ap (λ z. z +ℤ term) c.loop-i.invariant.value ∙ ap (λ z. total_z i (λ j. excess t (at c.args.weights.now j)) +ℤ z) e-term);
      within = subst (IsWithin ((i + 1) * 281474976710656)) (sym e-sum) (summed_within (i * 281474976710656) 281474976710656 ((i + 1) * 281474976710656) sum term (omega arith) c.loop-i.invariant.within c.excess_of-sum.ensures.within);
    }

pub excess_of-sum-requires-clause-weight : goal.excess_of-sum-requires-clause-weight
excess_of-sum-requires-clause-weight c = search rules

pub overflow_add-sum : goal.overflow_add-sum
overflow_add-sum c = search rules

pub returns-clause-value : goal.returns-clause-value
returns-clause-value c = search rules

pub returns-clause-within : goal.returns-clause-within
returns-clause-within c = search rules
