use Rattle.std.proofs.Common.{◌≡◌, ℕ, ◌<◌, length, w64, to_z, of_z, sym, ◌∙◌, subst, arith}
use Rattle.std.specs.Prelude.{ℤ, slice_index}
use Rattle.std.proofs.lemmas.List.{length-set}
use Rattle.certificate_model.specs.Ranges.{IsWithin}
use Rattle.constraint_model.specs.Views.{problem_of}
use Rattle.lagrange_bound.specs.Shares.{own_weight}
use Rattle.lagrange_bound.proofs.Linked.{filled}
use Rattle.lagrange_bound.proofs.Sums.{read_back}
use Rattle.lagrange_bound.proofs.weights.own_weights.Goals as goal

pub loop-i-preserved : goal.loop-i-preserved
loop-i-preserved c =
    let i = c.loop-i.i in
    let x : ℤ = to_z w64 (of_z w64 c.own_weight.result) in
    let same : x ≡ c.own_weight.result = read_back 272777216 c.own_weight.result (omega arith) c.own_weight.ensures.within in
    let items = c.items-i-end.ensures.items in
    let few = c.items-i-end.ensures.bank.few in
    let place : i < length c.loop-i.weights = omega (arith, c.loop-i.invariant.whole) in
    record {
      whole = length-set c.loop-i.weights i x ∙ c.loop-i.invariant.whole;
      value = filled (λ (j : ℕ) (z : ℤ). z ≡ own_weight (problem_of c.args.problem.now) (slice_index c.args.sides.now) c.args.ray j) c.loop-i.weights i x place c.loop-i.invariant.value (same ∙ c.own_weight.ensures.value);
      within = filled (λ (j : ℕ) (z : ℤ). IsWithin 272777216 z) c.loop-i.weights i x place c.loop-i.invariant.within (subst (IsWithin 272777216) (sym same) c.own_weight.ensures.within);
    }
