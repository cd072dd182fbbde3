use Rattle.std.proofs.Common.{◌≡◌, ℕ, suc, List, cond, ◌+◌, ◌*◌, ◌<◌, ◌≤◌, w64, to_z, of_z, add-one, sym, ap, ◌∙◌, subst, arith}
use Rattle.std.specs.Prelude.{ℤ, pos, ◌+ℤ◌, slice_index}
use Rattle.std.specs.Int.{int_max}
use Rattle.bank_tables.specs.Items.{has}
use Rattle.bank_tables.specs.Sums.{total_z}
use Rattle.bank_tables.specs.Tables.{size, stimulus}
use Rattle.form_model.specs.Forms.{stimuli_of}
use Rattle.certificate_model.specs.Ranges.{IsWithin, at}
use Rattle.certificate_model.specs.Weights.{stimulus_weight}
use Rattle.constraint_model.specs.Views.{problem_of}
use Rattle.lagrange_bound.specs.declared.cut.Cut.{Cut}
use Rattle.lagrange_bound.specs.Links.{gain_on}
use Rattle.lagrange_bound.specs.Ranges.{excesses_top, stimulus_top}
use Rattle.lagrange_bound.proofs.CountingSteps.{greatest_at_most}
use Rattle.lagrange_bound.proofs.Sums.{fits_sum, read_back, summed, summed_within, total_more, wider}
use Rattle.lagrange_bound.proofs.relaxation.gains.Goals as goal

pub loop-k-preserved : goal.loop-k-preserved
loop-k-preserved c =
    let P = problem_of c.args.problem.now in
    let k = c.loop-k.k in
    let M : ℕ → ℕ = slice_index c.args.sides.now in
    let cut : Cut = c.args.cut.now in
    let excesses : List ℤ = c.args.excesses.now in
    let top : ℕ = stimulus_top + excesses_top in
    let most : stimuli_of P.bank ≤ 64 = greatest_at_most (size P.bank) 64 (stimulus P.bank) c.requires.well_made.bank.stimulus_high in
    let few : k < 64 = omega (arith, c.stimuli-k-end.ensures) in
    let sum : ℤ = to_z w64 c.loop-k.sum-bits in
    let term : ℤ = c.gain_of-sum.result in
    let rows : ℤ = c.rows_on_stimuli-rows.result in
    let weight_now : ℤ = c.stimulus_weight-weight.result in
    let same_rows : to_z w64 (of_z w64 rows) ≡ rows = read_back 2147483648 rows (omega arith) c.rows_on_stimuli-rows.ensures.within in
    let same : to_z w64 (of_z w64 weight_now) ≡ weight_now = read_back stimulus_top weight_now (omega arith) c.stimulus_weight-weight.ensures.within in
    let e-sum : to_z w64 (of_z w64 (sum +ℤ to_z w64 (of_z w64 term))) ≡ sum +ℤ term = summed (k * top) top sum term (omega arith) c.loop-k.invariant.within c.gain_of-sum.ensures.within in
    let e-one : k + 1 ≡ suc k = add-one k in
    let e-weight : weight_now ≡ stimulus_weight P M (k + 1) = c.stimulus_weight-weight.ensures.value (same_rows ∙ c.rows_on_stimuli-rows.ensures.value) in
    let e-term : term ≡ gain_on P cut M excesses (suc k) =
    c.gain_of-sum.ensures.value
    ∙ ap (λ (z : ℤ). cond (has cut.chosen (k + 1)) z (cond (has cut.opened (k + 1)) (int_max (pos 0) (z +ℤ at excesses (k + 1))) (pos 0))) (same ∙ e-weight)
    ∙ ap (λ (s : ℕ). gain_on P cut M excesses s) e-one in
    record {
      value = e-sum ∙ ap (λ z. z +ℤ term) c.loop-k.invariant.value ∙ ap (λ z. total_z k (λ j. gain_on P cut M excesses (suc j)) +ℤ z) e-term ∙ sym (total_more k (λ j. gain_on P cut M excesses (suc j)));
      within = subst (IsWithin ((k + 1) * top)) (sym e-sum) (summed_within (k * top) top ((k + 1) * top) sum term (omega arith) c.loop-k.invariant.within c.gain_of-sum.ensures.within);
    }

pub returns-clause-value : goal.returns-clause-value
returns-clause-value c =
    let P = problem_of c.args.problem.now in
    let all : c.loop-k.k ≡ stimuli_of P.bank = omega (arith, c.stimuli-k-end.ensures) in
    c.loop-k.invariant.value ∙ ap (λ (n : ℕ). total_z n (λ j. gain_on P c.args.cut.now (slice_index c.args.sides.now) c.args.excesses.now (suc j))) all

pub returns-clause-within : goal.returns-clause-within
returns-clause-within c =
    let P = problem_of c.args.problem.now in
    let top : ℕ = stimulus_top + excesses_top in
    let most : stimuli_of P.bank ≤ 64 = greatest_at_most (size P.bank) 64 (stimulus P.bank) c.requires.well_made.bank.stimulus_high in
    let few : c.loop-k.k ≤ 64 = omega (arith, c.stimuli-k-end.ensures) in
    wider (c.loop-k.k * top) (64 * top) (to_z w64 c.loop-k.sum-bits) (omega arith) c.loop-k.invariant.within

pub gain_of-sum-requires-clause-which : goal.gain_of-sum-requires-clause-which
gain_of-sum-requires-clause-which c =
    let P = problem_of c.args.problem.now in
    let most : stimuli_of P.bank ≤ 64 = greatest_at_most (size P.bank) 64 (stimulus P.bank) c.requires.well_made.bank.stimulus_high in
    omega (arith, c.stimuli-k-end.ensures)

pub gain_of-sum-requires-clause-excess : goal.gain_of-sum-requires-clause-excess
gain_of-sum-requires-clause-excess c =
    let P = problem_of c.args.problem.now in
    let most : stimuli_of P.bank ≤ 64 = greatest_at_most (size P.bank) 64 (stimulus P.bank) c.requires.well_made.bank.stimulus_high in
    c.requires.excesses (c.loop-k.k + 1) (omega (arith, c.stimuli-k-end.ensures))

pub overflow_add-sum : goal.overflow_add-sum
overflow_add-sum c =
    let P = problem_of c.args.problem.now in
    let top : ℕ = stimulus_top + excesses_top in
    let most : stimuli_of P.bank ≤ 64 = greatest_at_most (size P.bank) 64 (stimulus P.bank) c.requires.well_made.bank.stimulus_high in
    let few : c.loop-k.k < 64 = omega (arith, c.stimuli-k-end.ensures) in
    fits_sum (c.loop-k.k * top) top (to_z w64 c.loop-k.sum-bits) c.gain_of-sum.result (omega arith) c.loop-k.invariant.within c.gain_of-sum.ensures.within
