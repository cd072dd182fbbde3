use Rattle.std.proofs.Common.{◌≡◌, ◌≤◌, true, arith, sym, ap, ◌∙◌}
use Rattle.bank_tables.specs.Items.{Set}
use Rattle.bank_tables.specs.Tables.{size, stimulus}
use Rattle.form_model.specs.Forms.{stimuli_of}
use Rattle.form_model.specs.Problem.{Problem}
use Rattle.certificate_model.specs.Paths.{Path, is_open}
use Rattle.constraint_model.specs.Views.{problem_of}
use Rattle.certificate_check.specs.Cuts.{path_of}
use Rattle.certificate_check.proofs.CostLaws.{open_branch}
use Rattle.certificate_check.proofs.Steps.{greatest_at_most}
use Rattle.certificate_check.proofs.fixing.has_too_few.Goals as goal

pub bounds-left-which : goal.bounds-left-which
bounds-left-which c =
    let P : Problem = problem_of c.args.problem.now in
    let p : Path = path_of c.args.standing.now.cut in
    let opened : is_open P p c.args.which ≡ true = sym (c.has.ensures ∙ ap (λ (X : Set). X c.args.which) c.requires.standing.opened) ∙ c.if-not-has.false in
    let branch = open_branch P p c.args.which opened in
    let most : stimuli_of P.bank ≤ 64 = greatest_at_most (size P.bank) 64 (stimulus P.bank) c.requires.well_made.bank.stimulus_high in
    omega (arith, branch.last)

pub low_bound-requires-clause-first : goal.low_bound-requires-clause-first
low_bound-requires-clause-first c =
    let P : Problem = problem_of c.args.problem.now in
    let p : Path = path_of c.args.standing.now.cut in
    let opened : is_open P p c.args.which ≡ true = sym (c.has.ensures ∙ ap (λ (X : Set). X c.args.which) c.requires.standing.opened) ∙ c.if-not-has.false in
    let branch = open_branch P p c.args.which opened in
    branch.first

pub low_bound-requires-clause-last : goal.low_bound-requires-clause-last
low_bound-requires-clause-last c =
    let P : Problem = problem_of c.args.problem.now in
    let p : Path = path_of c.args.standing.now.cut in
    let opened : is_open P p c.args.which ≡ true = sym (c.has.ensures ∙ ap (λ (X : Set). X c.args.which) c.requires.standing.opened) ∙ c.if-not-has.false in
    let branch = open_branch P p c.args.which opened in
    branch.last
