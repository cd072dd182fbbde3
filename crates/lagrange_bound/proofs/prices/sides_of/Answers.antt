use Rattle.std.proofs.Common.{◌≡◌, ℕ, ◌-◌, ◌<◌, ◌≤◌, length, get_or, sym, ap, ◌∙◌, subst, refl, arith}
use Rattle.certificate_model.specs.Relaxed.{Multipliers, multiplier}
use Rattle.std.proofs.Common.{drop}
use Rattle.std.proofs.Math.Path.{fun_ext}
use Rattle.certificate_model.specs.ProofTrees.{IsVector}
use Rattle.std.proofs.lemmas.List.{length-set, get_or_default}
use Rattle.lagrange_bound.proofs.CountingSteps.{zero_at}
use Rattle.lagrange_bound.proofs.Sides.{at_most, one_more, bounded, none}
use Rattle.lagrange_bound.proofs.prices.sides_of.Goals as goal

pub loop-k-init : goal.loop-k-init
loop-k-init c = record { whole = refl; value = λ s. zero_at 386 s ∙ sym (none c.pairs-pairs.result.now (length c.pairs-pairs.result.now - 0) s (omega arith)); high = λ s. omega (arith, zero_at 386 s) }

pub loop-k-preserved : goal.loop-k-preserved
loop-k-preserved c =
    let v : Multipliers = c.pairs-pairs.result.now in
    let place = length v - 1 - c.loop-k.k in
    let low : place < length v = omega (arith, c.loop-k-test.true) in
    let pair : ℕ × ℕ = get_or v place (0, 0) in
    let same : v ≡ c.args.vector.now = c.pairs-pairs.ensures.pairs in
    let side : pair.0 < 386 = subst (λ (u : Multipliers). (get_or u place (0, 0)).0 < 386) (sym same) (c.requires place (0, 0) (subst (λ (u : Multipliers). place < length u) same low)) in
    let within : pair.0 < length c.loop-k.sides = omega (arith, c.loop-k.invariant.whole) in
    let few : pair.1 ≤ 16777216 = at_most v 0 place (0, 0) (subst (IsVector 0) (sym same) c.pairs-pairs.ensures.vector) low in
    let is : pair ≡ get_or v place pair = get_or_default v place (0, 0) pair low in
    record {
      whole = length-set c.loop-k.sides pair.0 pair.1 ∙ c.loop-k.invariant.whole;
      value = one_more v c.loop-k.sides c.loop-k.k pair c.loop-k-test.true is within c.loop-k.invariant.value;
      high = bounded c.loop-k.sides pair.0 pair.1 within few c.loop-k.invariant.high;
    }

pub returns-clause-value : goal.returns-clause-value
returns-clause-value c = fun_ext (λ (side : ℕ).
    let v : Multipliers = c.pairs-pairs.result.now in
    let all : length v - c.loop-k.k ≡ 0 = omega (arith, c.loop-k-test.false) in
    c.loop-k.invariant.value side ∙ ap (λ (n : ℕ). multiplier (drop n v) side) all ∙ ap (λ (u : Multipliers). multiplier u side) c.pairs-pairs.ensures.pairs)

pub returns-clause-high : goal.returns-clause-high
returns-clause-high c = c.loop-k.invariant.high
