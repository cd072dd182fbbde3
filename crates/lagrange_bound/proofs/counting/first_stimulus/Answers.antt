use Rattle.std.proofs.Common.{◌≡◌, ◌+◌, ◌≤◌, ◌||◌, ap, ◌∙◌, arith}
use Rattle.bank_tables.specs.Items.{Set, has}
use Rattle.bank_tables.specs.Tables.{size, stimulus}
use Rattle.form_model.specs.Forms.{items_of, stimuli_of}
use Rattle.constraint_model.specs.Views.{problem_of}
use Rattle.form_model.specs.Problem.{Problem}
use Rattle.form_model.specs.Validity.{IsWellMade}
use Rattle.lagrange_bound.proofs.CountingSteps.{greatest_at_most}
use Rattle.lagrange_bound.proofs.CountingSteps.{greatest_at_most}
use Rattle.std.proofs.Math.Path.{fun_ext}
use Rattle.form_model.specs.Problem.{Problem}
use Rattle.form_model.specs.Validity.{IsWellMade}
use Rattle.lagrange_bound.proofs.counting.first_stimulus.Goals as goal

few : (P : Problem) → IsWellMade P → stimuli_of P.bank ≤ 64
few P is = greatest_at_most (size P.bank) 64 (stimulus P.bank) is.bank.stimulus_high

pub bounds-least-at : goal.bounds-least-at
bounds-least-at c = omega (arith, few (problem_of c.args.problem.now) c.requires, c.stimuli-k-end.ensures)

pub bounds-most-at : goal.bounds-most-at
bounds-most-at c = omega (arith, few (problem_of c.args.problem.now) c.requires, c.stimuli-k-end.ensures)

pub stimulus_impossible-requires-clause-least : goal.stimulus_impossible-requires-clause-least
stimulus_impossible-requires-clause-least c =
    let within : c.loop-k.k + 1 ≤ 64 = omega (arith, few (problem_of c.args.problem.now) c.requires, c.stimuli-k-end.ensures) in
    c.items_by_stimulus-least.ensures (c.loop-k.k + 1) within

pub stimulus_impossible-requires-clause-most : goal.stimulus_impossible-requires-clause-most
stimulus_impossible-requires-clause-most c =
    let within : c.loop-k.k + 1 ≤ 64 = omega (arith, few (problem_of c.args.problem.now) c.requires, c.stimuli-k-end.ensures) in
    let both : has c.union-items.result ≡ (λ i. has c.args.cut.now.taken i || has c.args.cut.now.free i) = fun_ext c.union-items.ensures in
    c.items_by_stimulus-most.ensures (c.loop-k.k + 1) within ∙ ap (λ (X : Set). items_of c.args.problem.now.bank.now (c.loop-k.k + 1) X) both
