use Rattle.std.proofs.Common.{◌≡◌, ℕ, ◌<◌, w64, to_z, of_z, length, ◌∙◌, subst, sym, arith}
use Rattle.std.specs.Prelude.{ℤ, Some}
use Rattle.std.proofs.lemmas.List.{length-set}
use Rattle.certificate_model.specs.Ranges.{IsWithin}
use Rattle.lagrange_bound.specs.Links.{link_on}
use Rattle.lagrange_bound.specs.Ranges.{excess_top}
use Rattle.lagrange_bound.proofs.Linked.{filled}
use Rattle.lagrange_bound.proofs.Sums.{read_back}
use Rattle.lagrange_bound.proofs.links.links.Goals as goal

pub loop-i-preserved : goal.loop-i-preserved
loop-i-preserved c =
    let i = c.loop-i.i in
    let x : ℤ = to_z w64 (of_z w64 c.link.result) in
    let same : x ≡ c.link.result = read_back excess_top c.link.result (omega arith) c.link.ensures.within in
    let items = c.items-i-end.ensures in
    let few = c.items-i-end.ensures.bank.few in
    let place : i < length c.loop-i.links = omega (arith, c.loop-i.invariant.whole) in
    record {
      whole = length-set c.loop-i.links i x ∙ c.loop-i.invariant.whole;
      value = filled (λ (j : ℕ) (z : ℤ). z ≡ link_on c.args.bank.now c.args.cut.now (Some (to_z w64 (of_z w64 c.args.cap))) c.args.weights.now j) c.loop-i.links i x place c.loop-i.invariant.value (same ∙ c.link.ensures.value);
      within = filled (λ (j : ℕ) (z : ℤ). IsWithin excess_top z) c.loop-i.links i x place c.loop-i.invariant.within (subst (IsWithin excess_top) (sym same) c.link.ensures.within);
    }
