use Rattle.std.proofs.Common.{◌≡◌, List, w64, to_z, of_z, ap, ◌∙◌, arith}
use Rattle.std.specs.Prelude.{ℤ, pos, ◌*ℤ◌}
use Rattle.std.proofs.lemmas.Int.{ints}
use Rattle.bank_tables.specs.Sums.{total_z}
use Rattle.certificate_model.specs.Ranges.{at}
use Rattle.lagrange_bound.specs.Fills.{excess, IsThreshold}
use Rattle.lagrange_bound.proofs.threshold.sum_of_greatest.Goals as goal

pub returns-clause-sum : goal.returns-clause-sum
returns-clause-sum c =
    let n = c.args.n in
    let xs : List ℤ = c.args.weights.now in
    let t : ℤ = c.threshold-threshold.result in
    let is : IsThreshold n xs c.args.k t = c.threshold-threshold.ensures in
    let same : to_z w64 (of_z w64 t) ≡ t = omega (arith, ints, is.low, is.high) in
    let product : c.times.result ≡ pos c.args.k *ℤ t = c.times.ensures.value ∙ ap (λ (z : ℤ). pos c.args.k *ℤ z) same in
    let rest : c.excess_over.result ≡ total_z n (λ i. excess t (at xs i)) = c.excess_over.ensures.value ∙ ap (λ (z : ℤ). total_z n (λ i. excess z (at xs i))) same in
    record {
      threshold = t;
      is = is;
      value = omega (arith, ints, c.times.ensures.within, c.excess_over.ensures.within);
    }

pub returns-clause-within : goal.returns-clause-within
returns-clause-within c = record { low = omega (arith, ints, c.times.ensures.within, c.excess_over.ensures.within); high = omega (arith, ints, c.times.ensures.within, c.excess_over.ensures.within) }
