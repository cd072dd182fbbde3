use Rattle.std.proofs.Common.{rules, ◌≤◌, List, length, ap, arith}
use Rattle.bank_tables.specs.Tables.{size, stimulus}
use Rattle.form_model.specs.declared.row.Row.{Row}
use Rattle.certificate_model.specs.Weights.{stimulus_weight}
use Rattle.form_model.specs.Forms.{stimuli_of}
use Rattle.certificate_check.proofs.Steps.{greatest_at_most}
use Rattle.series_check.specs.Cuts.{one_form}
use Rattle.series_check.proofs.rows.stimulus_weight.Goals as goal

pub bounds_price-requires-clause-side : goal.bounds_price-requires-clause-side
bounds_price-requires-clause-side c =
    let P = one_form c.args.setting.now in
    let few : stimuli_of P.bank ≤ 64 = greatest_at_most (size P.bank) 64 (stimulus P.bank) c.requires.problem.bank.stimulus_high in
    omega (arith, ap (λ (xs : List Row). length xs) c.rows.ensures, c.requires.problem.plan.few_rows)

pub returns-clause-value : goal.returns-clause-value
unfolding stimulus_weight
returns-clause-value c = search rules
