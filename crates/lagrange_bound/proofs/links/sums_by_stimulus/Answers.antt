use Rattle.std.proofs.Common.{◌≡◌, ℕ, List, set, ◌+◌, ◌*◌, ◌<◌, ◌≤◌, length, w64, to_z, of_z, refl, sym, ap, ◌∙◌, subst, arith}
use Rattle.std.specs.Prelude.{ℤ, ◌+ℤ◌}
use Rattle.std.proofs.lemmas.Int.{ints}
use Rattle.bank_tables.specs.Tables.{stimulus}
use Rattle.certificate_model.specs.Ranges.{IsWithin, at}
use Rattle.lagrange_bound.specs.Ranges.{excess_top}
use Rattle.lagrange_bound.proofs.Linked.{one_more, one_more_within, zero_at}
use Rattle.lagrange_bound.proofs.Sums.{read_back}
use Rattle.lagrange_bound.proofs.links.sums_by_stimulus.Goals as goal

pub loop-i-init : goal.loop-i-init
loop-i-init c =
    record {
      whole = refl;
      value = λ s w. zero_at 65 s;
      within = λ s w. subst (IsWithin 0) (sym (zero_at 65 s)) (record { low = omega (arith, ints); high = omega (arith, ints) });
    }

pub loop-i-preserved : goal.loop-i-preserved
loop-i-preserved c =
    let i = c.loop-i.i in
    let xs : List ℤ = c.loop-i.sums in
    let of : ℕ → ℕ = stimulus c.args.bank.now in
    let f : ℕ → ℤ = at c.args.numbers.now in
    let inside = c.items-i-end.ensures.items in
    let range : IsWithin excess_top (f i) = c.requires i (omega arith) in
    let same : to_z w64 (of_z w64 (f i)) ≡ f i = read_back excess_top (f i) (omega arith) range in
    let low : of i ≤ 64 = c.items-i-end.ensures.bank.stimulus_high i in
    let place : of i < length xs = omega (arith, c.loop-i.invariant.whole) in
    let now : c.add_to.new.sums ≡ set xs (of i) (at xs (of i) +ℤ f i) =
    c.add_to.ensures
    ∙ ap (λ (k : ℕ). set xs k (at xs k +ℤ to_z w64 (of_z w64 (f i)))) c.stimulus.ensures
    ∙ ap (λ (z : ℤ). set xs (of i) (at xs (of i) +ℤ z)) same in
    record {
      whole = c.add_to.array_long;
      value = λ s w. ap (λ (ys : List ℤ). at ys s) now ∙ one_more of f xs i place s (c.loop-i.invariant.value s w);
      within = λ s w.
          let top : i * excess_top + excess_top ≡ (i + 1) * excess_top = omega arith in
          subst (λ (ys : List ℤ). IsWithin ((i + 1) * excess_top) (at ys s)) (sym now)
          (subst (λ (m : ℕ). IsWithin m (at (set xs (of i) (at xs (of i) +ℤ f i)) s)) top
          (one_more_within of xs i (i * excess_top) excess_top (f i) place c.loop-i.invariant.within low range s w));
    }
