use Rattle.std.proofs.Common.{◌≡◌, ℕ, ◌+◌, ◌≤◌, List, length, ap, arith}
use Rattle.bank_tables.specs.Tables.{size, stimulus}
use Rattle.form_model.specs.declared.row.Row.{Row}
use Rattle.form_model.specs.Forms.{stimuli_of}
use Rattle.constraint_model.specs.Views.{problem_of}
use Rattle.form_model.specs.Problem.{Problem}
use Rattle.form_model.specs.Validity.{IsWellMade}
use Rattle.lagrange_bound.proofs.CountingSteps.{first_length, first_of_rows, first_of_stimuli, none_first, greatest_at_most}
use Rattle.lagrange_bound.proofs.counting.impossible.Goals as goal

few : (P : Problem) → IsWellMade P → stimuli_of P.bank ≤ 64
few P is = greatest_at_most (size P.bank) 64 (stimulus P.bank) is.bank.stimulus_high

pub overflow_add-result : goal.overflow_add-result
overflow_add-result c = omega (arith, (c.in-Some-first_row.ensures c.requires.cut.path c.requires.cut.is).0, c.requires.well_made.plan.few_rows)

pub returns-in-Some-first_row : goal.returns-in-Some-first_row
returns-in-Some-first_row c p is = first_of_rows (problem_of c.args.problem.now) p c.args.cut.now is c.in-Some-first_row.row (c.in-Some.ensures p is).0 (c.in-Some-first_row.ensures p is)

pub overflow_cast-result : goal.overflow_cast-result
overflow_cast-result c = omega (arith, c.requires.well_made.plan.few_rows, ap (λ (xs : List Row). length xs) c.rows-rows.ensures)

pub overflow_add-result-in-Some-first_stimulus : goal.overflow_add-result-in-Some-first_stimulus
overflow_add-result-in-Some-first_stimulus c = omega (arith, c.requires.well_made.plan.few_rows, ap (λ (xs : List Row). length xs) c.rows-rows.ensures)

pub overflow_add-result-in-Some-first_stimulus-2 : goal.overflow_add-result-in-Some-first_stimulus-2
overflow_add-result-in-Some-first_stimulus-2 c = omega (arith, few (problem_of c.args.problem.now) c.requires.well_made, (c.in-Some-first_stimulus.ensures c.requires.cut.path c.requires.cut.is).0, c.requires.well_made.plan.few_rows, ap (λ (xs : List Row). length xs) c.rows-rows.ensures)

pub returns-in-Some-first_stimulus : goal.returns-in-Some-first_stimulus
returns-in-Some-first_stimulus c p is =
    let P = problem_of c.args.problem.now in
    let k = c.in-Some-first_stimulus.k in
    let same : length c.rows-rows.result.now ≡ length P.plan.rows = ap (λ (xs : List Row). length xs) c.rows-rows.ensures in
    first_of_stimuli P p c.args.cut.now is k (length c.rows-rows.result.now + 1 + k) (ap (λ (n : ℕ). n + 1 + k) same) (c.in-Some.ensures p is).0 (c.in-None-first_row.ensures p is) (c.in-Some-first_stimulus.ensures p is)

pub returns-in-None-first_stimulus : goal.returns-in-None-first_stimulus
returns-in-None-first_stimulus c p is = none_first (problem_of c.args.problem.now) p c.args.cut.now is (c.in-Some.ensures p is).0 (c.in-None-first_row.ensures p is) (c.in-None-first_stimulus.ensures p is)

pub returns-in-None : goal.returns-in-None
returns-in-None c p is = first_length (problem_of c.args.problem.now) p c.args.cut.now is (c.in-None.ensures p is)
