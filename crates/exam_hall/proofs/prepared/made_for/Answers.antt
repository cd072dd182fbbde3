use Rattle.std.proofs.Common.{sym, ◌∙◌, subst}
use Rattle.std.proofs.lemmas.Bool.{true≢false}
use Rattle.constraint_model.specs.declared.problem.Problem.{Problem}
use Rattle.exam_hall.specs.Prepared.{IsSameProblem, HasItemSets}
use Rattle.exam_hall.proofs.SameProblem.{keeps_other}
use Rattle.exam_hall.proofs.prepared.made_for.Goals as goal

-- what was made for another problem is not kept
pub returns-in-Some-clause-keeps : goal.returns-in-Some-clause-keeps
returns-in-Some-clause-keeps c =
    let asked = c.args.asked.now in
    let made = c.in-Some.assembled in
    let sets : HasItemSets made.problem = subst HasItemSets c.problem.ensures c.has_item_sets.ensures in
    keeps_other asked c.args.prepared made c.in-Some.is sets c.has_item_sets-in-Some.ensures
    (λ (same : IsSameProblem made.problem asked).
    true≢false (sym (c.is_same.ensures.1 (subst (λ (P : Problem). IsSameProblem P asked) (sym c.problem-in-Some.ensures) same)) ∙ c.if-is_same.false))
