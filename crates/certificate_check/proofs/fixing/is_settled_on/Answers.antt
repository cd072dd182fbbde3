use Rattle.std.proofs.Common.{◌≡◌, true, sym, ap, ◌∙◌}
use Rattle.bank_tables.specs.Items.{Set}
use Rattle.form_model.specs.Problem.{Problem}
use Rattle.certificate_model.specs.Paths.{Path, is_open}
use Rattle.constraint_model.specs.Views.{problem_of}
use Rattle.certificate_check.specs.Cuts.{path_of}
use Rattle.certificate_check.proofs.CostLaws.{open_branch}
use Rattle.certificate_check.proofs.fixing.is_settled_on.Goals as goal

pub is_worth_using-requires-clause-branch : goal.is_worth_using-requires-clause-branch
is_worth_using-requires-clause-branch c =
    let P : Problem = problem_of c.args.problem.now in
    let p : Path = path_of c.args.standing.now.cut in
    let opened : is_open P p c.args.which ≡ true = sym (c.has.ensures ∙ ap (λ (X : Set). X c.args.which) c.requires.standing.opened) ∙ c.if-not-has.false in
    open_branch P p c.args.which opened
