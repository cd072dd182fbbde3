use Rattle.std.proofs.Common.{◌≡◌, ◌<◌, ◌≤◌, ◌+◌, ◌*◌, ℕ, suc, ap, ◌∙◌, to_z, of_z, add-one, sym, subst, arith}
use Rattle.std.specs.Prelude.{ℤ, ◌+ℤ◌, slice_index}
use Rattle.std.specs.Int.{w128}
use Rattle.bank_tables.specs.Sums.{total_z}
use Rattle.bank_tables.specs.Tables.{size, stimulus}
use Rattle.form_model.specs.Forms.{stimuli_of}
use Rattle.certificate_model.specs.Paths.{Path}
use Rattle.form_model.specs.Problem.{Problem}
use Rattle.certificate_model.specs.Ranges.{IsWithin}
use Rattle.certificate_check.proofs.Steps.{greatest_at_most}
use Rattle.series_check.specs.Cuts.{one_form, form_path_of}
use Rattle.series_check.specs.Gains.{gain_of}
use Rattle.series_check.proofs.Wide.{wide_top, nearer, both_within, summed}
use Rattle.series_check.proofs.gains.gains.Goals as goal

pub loop-k-preserved : goal.loop-k-preserved
loop-k-preserved c =
    let P : Problem = one_form c.args.setting.now in
    let p : Path = form_path_of c.args.standing.now in
    let N : ℕ → ℕ = slice_index c.args.sides.now in
    let k = c.loop-k.k in
    let sum : ℤ = to_z w128 c.loop-k.sum-bits in
    let term : ℤ = c.gain-sum.result in
    let most : stimuli_of P.bank ≤ 64 = greatest_at_most (size P.bank) 64 (stimulus P.bank) c.requires.problem.bank.stimulus_high in
    let few : k < 64 = omega (arith, c.stimuli-k-end.ensures, c.loop-k-test.true) in
    let before = c.loop-k.invariant.within in
    let within = c.gain-sum.ensures.within in
    let e-sum : to_z w128 (of_z w128 (sum +ℤ to_z w128 (of_z w128 term))) ≡ sum +ℤ term = summed sum term (nearer (k * 200000000000000000) wide_top sum (omega arith) before) (nearer 200000000000000000 wide_top term (omega arith) within) in
    let e-term : term ≡ gain_of P p N (suc k) = c.gain-sum.ensures.value ∙ ap (λ (s : ℕ). gain_of P p N s) (add-one k) in
    record {
      value = rw add-one (e-sum ∙ ap (λ z. z +ℤ term) c.loop-k.invariant.value ∙ ap (λ z. total_z k (λ j. gain_of P p N (suc j)) +ℤ z) e-term);
      within = subst (IsWithin ((k + 1) * 200000000000000000)) (sym e-sum) (both_within (k * 200000000000000000) 200000000000000000 ((k + 1) * 200000000000000000) sum term (omega arith) before within);
    }

pub returns-clause-within : goal.returns-clause-within
returns-clause-within c =
    let P : Problem = one_form c.args.setting.now in
    let most : stimuli_of P.bank ≤ 64 = greatest_at_most (size P.bank) 64 (stimulus P.bank) c.requires.problem.bank.stimulus_high in
    let few : c.loop-k.k ≤ 64 = omega (arith, c.stimuli-k-end.ensures, c.loop-k.auto.k-end) in
    nearer (c.loop-k.k * 200000000000000000) 12800000000000000000 (to_z w128 c.loop-k.sum-bits) (omega arith) c.loop-k.invariant.within
