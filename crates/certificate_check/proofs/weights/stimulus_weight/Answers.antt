use Rattle.std.proofs.Common.{rules, ◌≤◌, List, length, ap, arith}
use Rattle.bank_tables.specs.Tables.{size, stimulus}
use Rattle.form_model.specs.declared.row.Row.{Row}
use Rattle.certificate_model.specs.Weights.{stimulus_weight}
use Rattle.form_model.specs.Forms.{stimuli_of}
use Rattle.constraint_model.specs.Views.{problem_of}
use Rattle.certificate_check.proofs.Steps.{greatest_at_most}
use Rattle.certificate_check.proofs.weights.stimulus_weight.Goals as goal

pub bounds_price-requires-clause-side : goal.bounds_price-requires-clause-side
bounds_price-requires-clause-side c =
    let P = problem_of c.args.problem.now in
    let few : stimuli_of P.bank ≤ 64 = greatest_at_most (size P.bank) 64 (stimulus P.bank) c.requires.well_made.bank.stimulus_high in
    omega (arith, ap (λ (xs : List Row). length xs) c.rows.ensures, c.requires.well_made.plan.few_rows)

pub returns-clause-value : goal.returns-clause-value
unfolding stimulus_weight
returns-clause-value c = search rules
