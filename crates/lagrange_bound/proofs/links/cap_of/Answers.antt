use Rattle.std.proofs.Common.{◌≡◌, ℕ, w64, to_z, of_z, sym, ap, ◌∙◌, arith}
use Rattle.std.specs.Prelude.{ℤ, Some}
use Rattle.certificate_model.specs.Relaxed.{multiplier}
use Rattle.certificate_model.specs.Weights.{price}
use Rattle.lagrange_bound.proofs.Linked.{cap_none, cap_low, cap_high}
use Rattle.lagrange_bound.proofs.Sums.{read_back}
use Rattle.lagrange_bound.proofs.links.cap_of.Goals as goal
use Rattle.lagrange_bound.proofs.links.cap_of.Goals.{else-sides-eq0-via-then-sides-eq0+else-sides-eq0-2, else-sides-eq0-via-else-sides-eq0}

pub returns-then-sides-eq0-2-clause-value : goal.returns-then-sides-eq0-2-clause-value
returns-then-sides-eq0-2-clause-value c v is e =
    let low = ap (λ (f : ℕ → ℕ). f 384) e in
    let high = ap (λ (f : ℕ → ℕ). f 385) e in
    sym (cap_none v is (omega arith) (omega arith))

pub returns-clause-value : goal.returns-clause-value
returns-clause-value c v is e =
    let low = ap (λ (f : ℕ → ℕ). f 384) e in
    let high = ap (λ (f : ℕ → ℕ). f 385) e in
    let same : to_z w64 (of_z w64 c.price.result) ≡ c.price.result = read_back 16777216 c.price.result (omega arith) c.price.ensures.within in
    let now : to_z w64 (of_z w64 c.price.result) ≡ price (multiplier v) 384 = same ∙ c.price.ensures.value ∙ ap (λ (M : ℕ → ℕ). price M 384) e in
    ap (λ (z : ℤ). Some z) now
    ∙ elim c.else-sides-eq0.branch [
      | else-sides-eq0-via-then-sides-eq0+else-sides-eq0-2 w ↦ sym (cap_high v is (λ none. omega arith))
      | else-sides-eq0-via-else-sides-eq0 w ↦ sym (cap_low v is (λ none. omega arith))
    ]
