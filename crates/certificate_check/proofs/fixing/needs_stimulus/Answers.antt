use Rattle.std.proofs.Common.{◌≡◌, true, sym, ap, ◌∙◌}
use Rattle.bank_tables.specs.Items.{Set}
use Rattle.form_model.specs.Problem.{Problem}
use Rattle.certificate_model.specs.Paths.{Path, is_open}
use Rattle.constraint_model.specs.Views.{problem_of}
use Rattle.certificate_check.specs.Cuts.{path_of}
use Rattle.certificate_check.proofs.CostLaws.{open_branch}
use Rattle.certificate_check.proofs.fixing.needs_stimulus.Goals as goal

pub use_at-requires-clause-branch : goal.use_at-requires-clause-branch
use_at-requires-clause-branch c =
    let P : Problem = problem_of c.args.problem.now in
    let p : Path = path_of c.args.standing.now.cut in
    let opened : is_open P p c.stimulus-which.result ≡ true = sym (c.has.ensures ∙ ap (λ (X : Set). X c.stimulus-which.result) c.requires.standing.opened) ∙ c.if-not-has.false in
    open_branch P p c.stimulus-which.result opened
