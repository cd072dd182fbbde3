use Rattle.std.proofs.Common.{◌≡◌, List, ◌==◌, w64, to_z, of_z, sym, ap, ◌∙◌, subst, arith}
use Rattle.std.specs.Prelude.{ℤ, pos, ◌-ℤ◌, Option, Some}
use Rattle.std.proofs.lemmas.Int.{ints}
use Rattle.bank_tables.specs.Tables.{size, stimulus}
use Rattle.certificate_model.specs.Ranges.{IsWithin, at}
use Rattle.lagrange_bound.specs.Links.{excess_on, is_linked_on, link_on}
use Rattle.lagrange_bound.specs.Ranges.{excesses_top, item_top}
use Rattle.lagrange_bound.proofs.Linked.{excess_none, lowered, sum_in_z-same, zero_at}
use Rattle.lagrange_bound.proofs.Sums.{read_back}
use Rattle.lagrange_bound.proofs.links.cap_weights.Goals as goal

pub returns-in_default-clause-excesses : goal.returns-in_default-clause-excesses
returns-in_default-clause-excesses c s w =
    let none = excess_none c.args.bank.now c.args.cut.now c.args.weights.now s in
    zero_at 65 s ∙ sym (subst (λ (o : Option ℤ). excess_on c.args.bank.now c.args.cut.now o c.args.weights.now s ≡ pos 0) (sym c.in_default.is) none)

pub returns-in_default-clause-few : goal.returns-in_default-clause-few
returns-in_default-clause-few c s w = subst (IsWithin excesses_top) (sym (zero_at 65 s)) (record { low = omega (arith, ints); high = omega (arith, ints) })

pub returns-clause-within : goal.returns-clause-within
returns-clause-within c i w =
    let cap : ℤ = to_z w64 (of_z w64 c.in-Some.cap) in
    let range : IsWithin 16777216 c.in-Some.cap = c.requires.cap c.in-Some.cap c.in-Some.is in
    let same : cap ≡ c.in-Some.cap = read_back 16777216 c.in-Some.cap (omega arith) range in
    let items = c.items.ensures.items in
    let now = c.lower.ensures i (omega arith) ∙ ap (λ (z : ℤ). at c.args.weights.now i -ℤ z) (c.links-links.ensures.value i w) in
    subst (IsWithin item_top) (sym now) (lowered (is_linked_on c.args.bank.now c.args.cut.now i) cap (at c.args.weights.now i) (subst (IsWithin 16777216) (sym same) range) (c.requires.weights i w))

pub returns-clause-excesses : goal.returns-clause-excesses
returns-clause-excesses c s w =
    let b = c.args.bank.now in
    let weights : List ℤ = c.args.weights.now in
    let range : IsWithin 16777216 c.in-Some.cap = c.requires.cap c.in-Some.cap c.in-Some.is in
    let same : to_z w64 (of_z w64 c.in-Some.cap) ≡ c.in-Some.cap = read_back 16777216 c.in-Some.cap (omega arith) range in
    c.sums_by_stimulus.ensures.value s w
    ∙ sum_in_z-same (size b) (λ i. stimulus b i == s) (at c.links-links.result) (link_on b c.args.cut.now (Some (to_z w64 (of_z w64 c.in-Some.cap))) weights) c.links-links.ensures.value
    ∙ ap (λ (z : ℤ). excess_on b c.args.cut.now (Some z) weights s) same
    ∙ ap (λ (o : Option ℤ). excess_on b c.args.cut.now o weights s) (sym c.in-Some.is)
