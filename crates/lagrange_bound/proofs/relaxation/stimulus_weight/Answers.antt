use Rattle.std.proofs.Common.{◌≡◌, ℕ, ◌+◌, ◌-◌, ◌*◌, ◌≤◌, List, length, get_or, ap, ◌∙◌, arith}
use Rattle.std.specs.Prelude.{◌+ℤ◌, slice_index}
use Rattle.form_model.specs.declared.row.Row.{Row}
use Rattle.constraint_model.specs.Views.{problem_of}
use Rattle.lagrange_bound.specs.Ranges.{bounds_top}
use Rattle.bank_tables.specs.Tables.{size, stimulus}
use Rattle.form_model.specs.declared.row.StimulusBound.{StimulusBound}
use Rattle.form_model.specs.Forms.{stimuli_of}
use Rattle.certificate_model.specs.Weights.{bounds_price, stimulus_weight, stimulus_side}
use Rattle.lagrange_bound.proofs.CountingSteps.{greatest_at_most}
use Rattle.lagrange_bound.proofs.Sums.{two_summed}
use Rattle.lagrange_bound.proofs.relaxation.stimulus_weight.Goals as goal

pub bounds_price-requires-clause-side : goal.bounds_price-requires-clause-side
bounds_price-requires-clause-side c =
    let P = problem_of c.args.problem.now in
    let few : stimuli_of P.bank ≤ 64 = greatest_at_most (size P.bank) 64 (stimulus P.bank) c.requires.well_made.bank.stimulus_high in
    omega (arith, ap (λ (xs : List Row). length xs) c.rows.ensures, c.requires.well_made.plan.few_rows, c.requires.last)

pub returns-clause-value : goal.returns-clause-value
unfolding stimulus_weight
returns-clause-value c rows =
    let P = problem_of c.args.problem.now in
    let M : ℕ → ℕ = slice_index c.args.sides.now in
    let s = c.args.which in
    let none : StimulusBound = record { low = 0; high = 0 } in
    let bound : get_or c.bounds.result.now (s - 1) none ≡ get_or P.plan.bounds (s - 1) none = ap (λ (xs : List StimulusBound). get_or xs (s - 1) none) c.bounds.ensures in
    let side : 2 * length c.rows.result.now + 2 * (s - 1) ≡ stimulus_side P s = ap (λ (xs : List Row). 2 * length xs + 2 * (s - 1)) c.rows.ensures in
    two_summed bounds_top 2147483648 c.bounds_price.result c.args.rows (omega arith) c.bounds_price.ensures.within c.requires.rows
    ∙ ap (λ z. z +ℤ c.args.rows) (c.bounds_price.ensures.value ∙ ap (λ (m : ℕ). bounds_price M m (get_or c.bounds.result.now (s - 1) none).low (get_or c.bounds.result.now (s - 1) none).high) side ∙ ap (λ (b : StimulusBound). bounds_price M (stimulus_side P s) b.low b.high) bound)
    ∙ ap (λ z. bounds_price M (stimulus_side P s) (get_or P.plan.bounds (s - 1) none).low (get_or P.plan.bounds (s - 1) none).high +ℤ z) rows
