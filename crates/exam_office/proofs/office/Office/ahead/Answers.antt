use Rattle.std.proofs.Common.{◌∙◌, IfSome, sym, subst, arith}
use Rattle.std.specs.Prelude.{IfNone}
use Rattle.form_model.specs.Validity.{IsPlanFor}
use Rattle.bank_tables.specs.Tables.{Tables}
use Rattle.bank_tables.specs.Validity.{IsBank}
use Rattle.form_model.specs.Plan.{Plan}
use Rattle.exam_office.specs.Ahead.{HasNextStep, IsNextProblem, LeadsTo}
use Rattle.exam_office.specs.Marks.{history}
use Rattle.exam_office.specs.Running.{Running, handed}
use Rattle.exam_office.proofs.Committed.{run_of}
use Rattle.exam_office.proofs.NextProblems.{seat_there, seat_missing, started_now, few_responses, answered_seat, next_given, all_lead, some_next}
use Rattle.exam_office.proofs.office.Office.ahead.Goals as goal

pub returns-then-response-next_responses-clause-none : goal.returns-then-response-next_responses-clause-none
returns-then-response-next_responses-clause-none g c = λ next.
    let below = (c.next_responses.ensures c.args.response).1 next in
    let past = c.if-response-next_responses.true in
    absurd (omega arith)

pub unreachable-requires : goal.unreachable-requires
unreachable-requires g c =
    let o = c.self.inside in
    let was = handed g.D.Disk.content g.D.Disk.accounts g.D.Disk.faults o.opened.value in
    let run = run_of o.bank.now o.spec.now o.base o.book o.journal o.marks o.doubt was c.self.invariant.0 c.entries.ensures.examination in
    let next : HasNextStep o.bank.now o.spec.now (history o.marks) c.args.session c.args.response =
    subst (λ (r : Running g.row.D.Denot). HasNextStep r.bank r.plan (history r.marks) c.args.session c.args.response) (sym c.self.view_is) ((c.next_responses.ensures c.args.response).0 c.if-response-next_responses.false) in
    seat_missing o.book.entries (history o.marks) c.self.invariant.0.entries c.args.session (sym c.in_default.is ∙ c.seat.ensures)
    (started_now o.bank.now o.spec.now (history o.marks) c.args.session c.args.response run next)

pub with_response-answered-requires : goal.with_response-answered-requires
with_response-answered-requires g c =
    let o = c.self.inside in
    let was = handed g.D.Disk.content g.D.Disk.accounts g.D.Disk.faults o.opened.value in
    let run = run_of o.bank.now o.spec.now o.base o.book o.journal o.marks o.doubt was c.self.invariant.0 c.entries.ensures.examination in
    let next : HasNextStep o.bank.now o.spec.now (history o.marks) c.args.session c.args.response =
    subst (λ (r : Running g.row.D.Denot). HasNextStep r.bank r.plan (history r.marks) c.args.session c.args.response) (sym c.self.view_is) ((c.next_responses.ensures c.args.response).0 c.if-response-next_responses.false) in
    let e = c.entries.ensures.examination in
    few_responses o.bank.now o.spec.now (history o.marks) c.args.session c.args.response run next
    (subst (λ (b : Tables). IsBank b) c.self.invariant.0.bank e.bank)
    (subst (λ (p : Plan). IsPlanFor o.bank.now p) c.self.invariant.0.plan_is (subst (λ (b : Tables). IsPlanFor b o.book.plan) c.self.invariant.0.bank e.plan))
    c.in-Some.seat
    (seat_there o.book.entries (history o.marks) c.self.invariant.0.entries c.args.session c.in-Some.seat (sym c.in-Some.is ∙ c.seat.ensures))

pub next_problem-requires-clause-seat : goal.next_problem-requires-clause-seat
next_problem-requires-clause-seat g c =
    let o = c.self.inside in
    let was = handed g.D.Disk.content g.D.Disk.accounts g.D.Disk.faults o.opened.value in
    let run = run_of o.bank.now o.spec.now o.base o.book o.journal o.marks o.doubt was c.self.invariant.0 c.entries.ensures.examination in
    let next : HasNextStep o.bank.now o.spec.now (history o.marks) c.args.session c.args.response =
    subst (λ (r : Running g.row.D.Denot). HasNextStep r.bank r.plan (history r.marks) c.args.session c.args.response) (sym c.self.view_is) ((c.next_responses.ensures c.args.response).0 c.if-response-next_responses.false) in
    answered_seat o.bank.now o.spec.now (history o.marks) c.args.session c.args.response run next c.in-Some.seat
    (seat_there o.book.entries (history o.marks) c.self.invariant.0.entries c.args.session c.in-Some.seat (sym c.in-Some.is ∙ c.seat.ensures))
    c.with_response-answered.result c.with_response-answered.ensures

pub returns-clause-ahead : goal.returns-clause-ahead
returns-clause-ahead g c =
    let o = c.self.inside in
    let was = handed g.D.Disk.content g.D.Disk.accounts g.D.Disk.faults o.opened.value in
    let run = run_of o.bank.now o.spec.now o.base o.book o.journal o.marks o.doubt was c.self.invariant.0 c.entries.ensures.examination in
    let next : HasNextStep o.bank.now o.spec.now (history o.marks) c.args.session c.args.response =
    subst (λ (r : Running g.row.D.Denot). HasNextStep r.bank r.plan (history r.marks) c.args.session c.args.response) (sym c.self.view_is) ((c.next_responses.ensures c.args.response).0 c.if-response-next_responses.false) in
    subst (λ (r : Running g.row.D.Denot). IfSome c.next_problem.result (IsNextProblem r.bank r.plan (history r.marks) c.args.session c.args.response)) c.self.view_is
    (next_given o.bank.now o.spec.now (history o.marks) c.args.session c.args.response run next c.in-Some.seat
    (seat_there o.book.entries (history o.marks) c.self.invariant.0.entries c.args.session c.in-Some.seat (sym c.in-Some.is ∙ c.seat.ensures))
    c.with_response-answered.result c.with_response-answered.ensures c.next_problem.result c.next_problem.ensures.problem c.next_problem.ensures.well_made)

pub returns-clause-leads : goal.returns-clause-leads
returns-clause-leads g c =
    let o = c.self.inside in
    let was = handed g.D.Disk.content g.D.Disk.accounts g.D.Disk.faults o.opened.value in
    let run = run_of o.bank.now o.spec.now o.base o.book o.journal o.marks o.doubt was c.self.invariant.0 c.entries.ensures.examination in
    let next : HasNextStep o.bank.now o.spec.now (history o.marks) c.args.session c.args.response =
    subst (λ (r : Running g.row.D.Denot). HasNextStep r.bank r.plan (history r.marks) c.args.session c.args.response) (sym c.self.view_is) ((c.next_responses.ensures c.args.response).0 c.if-response-next_responses.false) in
    subst (λ (r : Running g.row.D.Denot). IfSome c.next_problem.result (LeadsTo r.bank r.plan (history r.marks) c.args.session c.args.response)) c.self.view_is
    (all_lead o.bank.now o.spec.now (history o.marks) c.args.session c.args.response c.next_problem.result
    (next_given o.bank.now o.spec.now (history o.marks) c.args.session c.args.response run next c.in-Some.seat
    (seat_there o.book.entries (history o.marks) c.self.invariant.0.entries c.args.session c.in-Some.seat (sym c.in-Some.is ∙ c.seat.ensures))
    c.with_response-answered.result c.with_response-answered.ensures c.next_problem.result c.next_problem.ensures.problem c.next_problem.ensures.well_made))

pub returns-clause-none : goal.returns-clause-none
returns-clause-none g c =
    let o = c.self.inside in
    let was = handed g.D.Disk.content g.D.Disk.accounts g.D.Disk.faults o.opened.value in
    let run = run_of o.bank.now o.spec.now o.base o.book o.journal o.marks o.doubt was c.self.invariant.0 c.entries.ensures.examination in
    let next : HasNextStep o.bank.now o.spec.now (history o.marks) c.args.session c.args.response =
    subst (λ (r : Running g.row.D.Denot). HasNextStep r.bank r.plan (history r.marks) c.args.session c.args.response) (sym c.self.view_is) ((c.next_responses.ensures c.args.response).0 c.if-response-next_responses.false) in
    subst (λ (r : Running g.row.D.Denot). IfNone c.next_problem.result (HasNextStep r.bank r.plan (history r.marks) c.args.session c.args.response → ⊥)) c.self.view_is
    (some_next o.bank.now o.spec.now (history o.marks) c.args.session c.args.response run next c.in-Some.seat
    (seat_there o.book.entries (history o.marks) c.self.invariant.0.entries c.args.session c.in-Some.seat (sym c.in-Some.is ∙ c.seat.ensures))
    c.with_response-answered.result c.with_response-answered.ensures c.next_problem.result c.next_problem.ensures.pending)
