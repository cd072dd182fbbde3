use Rattle.std.proofs.Common.{rules, ◌≡◌, ℕ, sym, subst, Option}
use Rattle.std.specs.Option.{option_copied}
use Rattle.bank_tables.specs.Items.{has}
use Rattle.form_model.specs.declared.breach.Breach.{Breach}
use Rattle.form_model.specs.Forms.{Form}
use Rattle.form_model.specs.Breaches.{IsFirstBreach}
use Rattle.serving_model.specs.Serving.{IsNext}
use Rattle.constraint_model.specs.Views.{problem_of}
use Rattle.exam_session.proofs.ReasonNotes.{of_serving, if_err}
use Rattle.exam_session.proofs.book.Book.judge_serving.Goals as goal

pub returns-clause-reason : goal.returns-clause-reason
returns-clause-reason c =
    let P = problem_of c.in-Ok.problem in
    let X = has c.args.form.now in
    let form : Form P X = subst (λ (o : Option Breach). IsFirstBreach P X o) c.in_default.is c.meets.ensures in
    let same : c.next_item-next.result ≡ c.args.item = sym c.if-item-next.false in
    let next : IsNext P X c.args.item = subst (λ (i : ℕ). IsNext P X i) same c.next_item-next.ensures.next in
    if_err _ _ (λ reason. of_serving c.args.self.now.bank c.args.self.now.plan c.args.self.now.entries c.args.session c.args.step c.args.item c.args.nodes c.args.form.now c.args.proved (option_copied c.args.tree) P c.claim_of_mark.result reason
    c.in-Ok.ensures.problem form next c.claim_of_mark.ensures) c.shows.result c.shows.ensures.reason

pub returns-in-Err-clause-may : goal.returns-in-Err-clause-may
returns-in-Err-clause-may c = search rules

pub returns-in-Err-clause-reason : goal.returns-in-Err-clause-reason
returns-in-Err-clause-reason c = search rules

pub returns-in-Some-clause-may : goal.returns-in-Some-clause-may
returns-in-Some-clause-may c = search rules

pub returns-in-Some-clause-reason : goal.returns-in-Some-clause-reason
returns-in-Some-clause-reason c = search rules

pub returns-then-item-next-clause-may : goal.returns-then-item-next-clause-may
returns-then-item-next-clause-may c = search rules

pub returns-then-item-next-clause-reason : goal.returns-then-item-next-clause-reason
returns-then-item-next-clause-reason c = search rules

pub returns-clause-may : goal.returns-clause-may
unfolding has
returns-clause-may c = search rules

pub next_item-next-requires-clause-well_made : goal.next_item-next-requires-clause-well_made
next_item-next-requires-clause-well_made c = search rules

pub next_item-next-requires-clause-form : goal.next_item-next-requires-clause-form
next_item-next-requires-clause-form c = search rules

pub next_item-next-requires-clause-free : goal.next_item-next-requires-clause-free
next_item-next-requires-clause-free c = search rules

pub shows-requires : goal.shows-requires
shows-requires c = search rules
