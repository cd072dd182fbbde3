use Rattle.std.proofs.Common.{◌≡◌, ◌<◌, ◌≤◌, ◌==◌, ℕ, suc, sym, ◌∙◌, ap, subst, arith, Bool, true, cond, w64, to_z, of_z}
use Rattle.std.specs.Prelude.{ℤ, List, Some, None, slice_index, ◌-ℤ◌}
use Rattle.std.proofs.lemmas.Int.{ints}
use Rattle.bank_tables.specs.Sums.{sum_in_z}
use Rattle.bank_tables.specs.Tables.{size, stimulus}
use Rattle.form_model.specs.Forms.{stimuli_of}
use Rattle.certificate_model.specs.Paths.{Path}
use Rattle.form_model.specs.Problem.{Problem}
use Rattle.certificate_model.specs.Ranges.{IsWithin, at}
use Rattle.certificate_model.specs.Weights.{price}
use Rattle.certificate_model.specs.ProofTrees.{IsVector}
use Rattle.certificate_model.specs.Relaxed.{Multipliers, cap, multiplier, cap_side, IsRelaxedMaximum}
use Rattle.constraint_model.specs.Views.{problem_of}
use Rattle.certificate_check.specs.Weights.{excess_at}
use Rattle.certificate_check.specs.Caps.{has_cap}
use Rattle.certificate_check.specs.Cuts.{path_of}
use Rattle.certificate_check.proofs.CapLaws.{cap_is, with_cap}
use Rattle.certificate_check.proofs.Steps.{greatest_at_most}
use Rattle.certificate_check.proofs.relaxed.capped_maximum.Goals as goal

-- with a multiplier at one of the cap's sides the cap is their price
some_cap : (v : Multipliers) (M : ℕ → ℕ) → M ≡ multiplier v → IsVector 0 v → has_cap M ≡ true → cap v ≡ Some (price (multiplier v) cap_side)
some_cap v M e is test = cap_is v is ∙ ap (λ (x : Bool). cond x (Some (price (multiplier v) cap_side)) None) (ap has_cap (sym e) ∙ test)

read_back : (z : ℤ) → IsWithin 4909983772838985728 z → to_z w64 (of_z w64 z) ≡ z
read_back z w = omega (arith, ints)

pub returns-clause-within : goal.returns-clause-within
returns-clause-within c = subst (IsWithin 4909983772838985728) (sym (read_back c.value_with.result c.value_with.ensures.within)) c.value_with.ensures.within

pub returns-clause-maximum : goal.returns-clause-maximum
returns-clause-maximum c = λ v ray is multipliers weighed.
    let P : Problem = problem_of c.args.problem.now in
    let p : Path = path_of c.args.standing.now.cut in
    let weights : List ℤ = c.args.weights.now in
    let some : cap v ≡ Some (price (multiplier v) cap_side) = some_cap v (slice_index c.args.sides.now) multipliers is c.requires.cap in
    let few : stimuli_of P.bank ≤ 64 = greatest_at_most (size P.bank) 64 (stimulus P.bank) c.requires.well_made.bank.stimulus_high in
    subst (IsRelaxedMaximum P p v ray) (sym (read_back c.value_with.result c.value_with.ensures.within))
    (c.value_with.ensures.maximum v ray multipliers
    (with_cap P p v ray weights weighed c.capped_weights-capped.result c.excesses_of-excesses.result some
    (subst (λ (N : ℕ → ℕ). (i : ℕ) → i < size P.bank → at c.capped_weights-capped.result i ≡ at weights i -ℤ excess_at P p N weights i) multipliers c.capped_weights-capped.ensures.value)
    (subst (λ (N : ℕ → ℕ). (k : ℕ) → k < 64 → at c.excesses_of-excesses.result k ≡ sum_in_z (size P.bank) (λ i. stimulus P.bank i == suc k) (excess_at P p N weights)) multipliers c.excesses_of-excesses.ensures.value)
    few))
