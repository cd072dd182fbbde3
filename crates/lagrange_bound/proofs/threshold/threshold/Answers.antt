use Rattle.std.proofs.Common.{◌≡◌, ◌≤◌, w64, to_z, of_z, arith}
use Rattle.std.specs.Prelude.{ℤ, pos, neg_ℤ, ◌+ℤ◌}
use Rattle.std.proofs.lemmas.Int.{ints}
use Rattle.lagrange_bound.specs.Ranges.{item_top}
use Rattle.lagrange_bound.specs.Fills.{at_least}
use Rattle.lagrange_bound.proofs.Thresholds.{none_past, all_from}
use Rattle.lagrange_bound.proofs.threshold.threshold.Goals as goal

pub threshold_from-requires-clause-enough : goal.threshold_from-requires-clause-enough
threshold_from-requires-clause-enough c =
    let low : ℤ = c.least-low.result in
    let same : to_z w64 (of_z w64 low) ≡ low = omega (arith, ints) in
    let more : at_least c.args.n c.args.weights.now (neg_ℤ (pos item_top)) ≤ at_least c.args.n c.args.weights.now low = all_from c.args.n c.args.weights.now (neg_ℤ (pos item_top)) low c.least-low.ensures.below in
    rw same (omega (arith, c.requires.enough))

pub threshold_from-requires-clause-few : goal.threshold_from-requires-clause-few
threshold_from-requires-clause-few c =
    let past : ℤ = to_z w64 (of_z w64 c.least-low.result) +ℤ pos c.gap_between.result in
    let none : at_least c.args.n c.args.weights.now past ≡ 0 = none_past c.args.n c.args.weights.now past (λ i w. let top = c.greatest-most.ensures.above i w in omega (arith, ints, c.gap_between.ensures)) in
    omega arith
