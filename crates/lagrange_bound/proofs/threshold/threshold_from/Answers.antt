use Rattle.std.proofs.Common.{◌≡◌, ℕ, ◌≤◌, w64, to_z, of_z, sym, ◌∙◌, subst, arith, rules}
use Rattle.std.specs.Prelude.{ℤ, pos, neg_ℤ, ◌+ℤ◌, ◌≤ℤ◌}
use Rattle.std.proofs.lemmas.Int.{ints}
use Rattle.lagrange_bound.specs.Ranges.{item_top}
use Rattle.lagrange_bound.specs.Fills.{at_least}
use Rattle.std.proofs.Common.{◌/◌}
use Rattle.lagrange_bound.proofs.Thresholds.{exact, halved}
use Rattle.lagrange_bound.proofs.threshold.threshold_from.Goals as goal

pub returns-then-count-k : goal.returns-then-count-k
returns-then-count-k c =
    let middle : ℤ = to_z w64 (of_z w64 (to_z w64 c.loop-gap.low-bits +ℤ to_z w64 (c.loop-gap.gap / 2))) in
    let low : neg_ℤ (pos item_top) ≤ℤ middle = omega (arith, ints) in
    let high : middle ≤ℤ pos item_top = omega (arith, ints) in
    exact c.args.n c.args.weights.now c.args.k middle low high (sym c.if-count-k.true ∙ c.count_at_least-count.ensures.count)

pub returns : goal.returns
returns c =
    let low : ℤ = to_z w64 c.loop-gap.low-bits in
    let one : c.loop-gap.gap ≡ 1 = omega (arith, c.loop-gap.invariant.some) in
    let high : low ≤ℤ pos item_top = omega (arith, ints) in
    halved c.args.n c.args.weights.now c.args.k low c.loop-gap.invariant.low high c.loop-gap.invariant.enough (subst (λ (g : ℕ). at_least c.args.n c.args.weights.now (low +ℤ pos g) ≤ c.args.k) one c.loop-gap.invariant.few)

pub overflow_add-middle : goal.overflow_add-middle
overflow_add-middle c = search rules

pub loop-gap-preserved-then-count-k-2 : goal.loop-gap-preserved-then-count-k-2
loop-gap-preserved-then-count-k-2 c = search rules

pub overflow_sub-gap : goal.overflow_sub-gap
overflow_sub-gap c = search rules

pub loop-gap-preserved : goal.loop-gap-preserved
loop-gap-preserved c = search rules
