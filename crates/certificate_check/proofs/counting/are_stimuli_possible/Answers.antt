use Rattle.std.proofs.Common.{◌≡◌, ℕ, suc, ◌+◌, ◌≤◌, sym, ap, ◌∙◌, arith}
use Rattle.std.proofs.Math.Bool.{true≢false}
use Rattle.bank_tables.specs.Tables.{size, stimulus}
use Rattle.certificate_model.specs.Counting.{stimulus_impossible}
use Rattle.form_model.specs.Forms.{stimuli_of}
use Rattle.constraint_model.specs.Views.{problem_of}
use Rattle.certificate_check.specs.Cuts.{path_of}
use Rattle.certificate_check.proofs.Steps.{greatest_at_most}
use Rattle.certificate_check.proofs.counting.are_stimuli_possible.Goals as goal

pub bounds-least-at : goal.bounds-least-at
bounds-least-at c =
    let P = problem_of c.args.problem.now in
    let few : stimuli_of P.bank ≤ 64 = greatest_at_most (size P.bank) 64 (stimulus P.bank) c.requires.well_made.bank.stimulus_high in
    omega (arith, c.stimuli-k-end.ensures)

pub bounds-most-at : goal.bounds-most-at
bounds-most-at c =
    let P = problem_of c.args.problem.now in
    let few : stimuli_of P.bank ≤ 64 = greatest_at_most (size P.bank) 64 (stimulus P.bank) c.requires.well_made.bank.stimulus_high in
    omega (arith, c.stimuli-k-end.ensures)

pub stimulus_misses-requires-clause-least : goal.stimulus_misses-requires-clause-least
stimulus_misses-requires-clause-least c =
    let P = problem_of c.args.problem.now in
    let few : stimuli_of P.bank ≤ 64 = greatest_at_most (size P.bank) 64 (stimulus P.bank) c.requires.well_made.bank.stimulus_high in
    c.items_of_each-least.ensures (c.loop-k.k + 1) (omega (arith, c.stimuli-k-end.ensures))

pub stimulus_misses-requires-clause-most : goal.stimulus_misses-requires-clause-most
stimulus_misses-requires-clause-most c =
    let P = problem_of c.args.problem.now in
    let few : stimuli_of P.bank ≤ 64 = greatest_at_most (size P.bank) 64 (stimulus P.bank) c.requires.well_made.bank.stimulus_high in
    c.items_of_each-most.ensures (c.loop-k.k + 1) (omega (arith, c.stimuli-k-end.ensures))

pub returns-then-stimulus_misses : goal.returns-then-stimulus_misses
returns-then-stimulus_misses c =
    let P = problem_of c.args.problem.now in
    let p = path_of c.args.standing.now.cut in
    let k = c.loop-k.k in
    let next : k + 1 ≡ suc k = omega arith in (
      λ h. absurd (true≢false (sym h)),
      λ all. absurd (true≢false (sym c.if-stimulus_misses.true ∙ c.stimulus_misses.ensures ∙ ap (λ (s : ℕ). stimulus_impossible P p s) next ∙ all k (omega (arith, c.stimuli-k-end.ensures)))),
    )
