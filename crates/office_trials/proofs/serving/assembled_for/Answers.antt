use Rattle.std.proofs.Common.{◌∙◌, sym, ap, subst}
use Rattle.form_model.specs.Plan.{Plan}
use Rattle.constraint_model.specs.declared.problem.Problem.{Problem as Given}
use Rattle.constraint_model.specs.Views.{problem_of}
use Rattle.history_model.specs.SessionProblems.{IsProblemOf}
use Rattle.exam_office.specs.Marks.{history}
use Rattle.office_trials.proofs.serving.assembled_for.Goals as goal

pub returns : goal.returns
returns g c =
    let o = c.args.office.now in
    let H = history o.marks in
    let made = c.in-Ok.ensures in
    c.may_be_committed.ensures o.bank o.plan o.base H c.args.session c.in-Ok.assembled
    (subst (λ (p : Given). IsProblemOf o.bank o.plan H c.args.session p.step (problem_of p)) (sym made.problem) c.in-Some.ensures.problem)
    (made.budget ∙ (c.budget.ensures ∙ ap (λ (p : Plan). p.budget) c.spec.ensures))
    (c.is_of_start.ensures c.if-not-is_of_start.false o.base)
