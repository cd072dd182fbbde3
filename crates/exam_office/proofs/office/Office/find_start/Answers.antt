use Rattle.std.proofs.Common.{◌≡◌, ◌<◌, ℕ, List, Some, None, sym, ap, ◌∙◌, subst}
use Rattle.bank_tables.specs.Tables.{Tables}
use Rattle.form_model.specs.Plan.{Plan}
use Rattle.history_model.specs.declared.entry.Entry.{Entry}
use Rattle.history_model.specs.declared.entry.Entry.TheVariants.{Started}
use Rattle.exam_office.specs.Marks.{history}
use Rattle.exam_office.specs.Running.{Running}
use Rattle.exam_office.specs.Calls.{IsStartFound}
use Rattle.exam_office.proofs.Starts.{start_found}
use Rattle.exam_office.proofs.office.Office.find_start.Goals as goal

pub returns-clause-found : goal.returns-clause-found
returns-clause-found g c =
    let o = c.self.inside in
    let book = o.book in
    let session = c.sessions-session.result in
    let eligible = c.drawn-eligible.result in
    let booking = c.args.booking in
    let entry : Entry = Started session booking eligible None in
    let plan_is : book.plan ≡ o.spec.now = c.self.invariant.0.plan_is in
    let within : session < book.plan.sessions = subst (λ (n : ℕ). session < n) (c.sessions.ensures ∙ ap (λ (p : Plan). p.sessions) (sym plan_is)) c.if-session-sessions.false in
    let here : IsStartFound book.bank book.plan book.entries booking session (Some entry) =
    start_found book.bank book.plan book.entries session booking eligible (sym c.in_default.is ∙ c.booked.ensures) c.sessions-session.ensures.number within c.drawn-eligible.ensures.drawn in
    subst (λ (r : Running g.row.D.Denot). IsStartFound r.bank r.plan (history r.marks) booking session (Some entry)) c.self.view_is
    (subst (λ (H : List Entry). IsStartFound o.bank.now o.spec.now H booking session (Some entry)) c.self.invariant.0.entries
    (subst (λ (p : Plan). IsStartFound o.bank.now p book.entries booking session (Some entry)) plan_is
    (subst (λ (b : Tables). IsStartFound b book.plan book.entries booking session (Some entry)) c.self.invariant.0.bank here)))
