use Rattle.std.proofs.Common.{◌≡◌, ◌<◌, ◌≤◌, ℕ, true, List, Result, Some, None, sym, ◌∙◌, subst}
use Rattle.bank_tables.specs.Items.{has}
use Rattle.bank_tables.specs.Tables.{Tables}
use Rattle.form_model.specs.Plan.{Plan}
use Rattle.history_model.specs.declared.entry.Entry.{Entry}
use Rattle.history_model.specs.declared.entry.Entry.TheVariants.{Started}
use Rattle.history_model.specs.declared.refusal.Refusal.{Refusal}
use Rattle.history_model.specs.declared.refusal.Refusal.TheVariants.{NoItem, SessionsFull}
use Rattle.history_model.specs.Draws.{AreDrawn}
use Rattle.history_model.specs.Entries.{sessions, holder, is_started}
use Rattle.history_model.specs.Lists.{IsListFor}
use Rattle.exam_office.specs.Marks.{history}
use Rattle.exam_office.specs.Running.{Running}
use Rattle.exam_office.specs.Calls.{refuse, IsWitness, IsStartWithoutFound, FindsStartWithout}
use Rattle.exam_office.proofs.Firsts.{held_is_started}
use Rattle.exam_office.proofs.Starts.{is_no_list, list_is_full, witness_is_lacking, start_without_found}
use Rattle.exam_office.proofs.office.Office.find_start_without.Goals as goal

pub was_started_without-requires : goal.was_started_without-requires
was_started_without-requires g c =
    let o = c.self.inside in
    let s = c.in-Some.session in
    let H = history o.marks in
    let held : holder H c.args.booking ≡ Some s = sym (subst (λ (G : List Entry). Some s ≡ holder G c.args.booking) c.self.invariant.0.entries (sym c.in-Some.is ∙ c.booked.ensures)) in
    subst (λ (r : Running g.row.D.Denot). is_started (history r.marks) s ≡ true) c.self.view_is (held_is_started c.args.booking s H held)

pub returns-then-not-is_list_for-clause-refused : goal.returns-then-not-is_list_for-clause-refused
returns-then-not-is_list_for-clause-refused g c =
    let o = c.self.inside in
    let b = o.bank.now in
    let plan = o.spec.now in
    let H = history o.marks in
    let items = c.args.items.now in
    let witness = c.args.witness.now in
    let none : None ≡ holder H c.args.booking = subst (λ (G : List Entry). None ≡ holder G c.args.booking) c.self.invariant.0.entries (sym c.in_default.is ∙ c.booked.ensures) in
    let here = is_no_list b plan H c.args.booking items witness none (sym c.is_list_for.ensures.words ∙ c.if-not-is_list_for.true) in
    subst (λ (r : Running g.row.D.Denot). FindsStartWithout r.bank r.plan c.args.booking items witness (history r.marks) (refuse (NoItem c.items.result))) c.self.view_is
    (subst (λ (n : ℕ). FindsStartWithout b plan c.args.booking items witness H (refuse (NoItem n))) (sym c.items.ensures.items) here)

pub returns-then-session-sessions-clause-refused : goal.returns-then-session-sessions-clause-refused
returns-then-session-sessions-clause-refused g c =
    let o = c.self.inside in
    let b = o.bank.now in
    let plan = o.spec.now in
    let H = history o.marks in
    let booking = c.args.booking in
    let items = c.args.items.now in
    let witness = c.args.witness.now in
    let none : None ≡ holder H booking = subst (λ (G : List Entry). None ≡ holder G booking) c.self.invariant.0.entries (sym c.in_default.is ∙ c.booked.ensures) in
    let number : c.sessions-session.result ≡ sessions H = subst (λ (G : List Entry). c.sessions-session.result ≡ sessions G) c.self.invariant.0.entries c.sessions-session.ensures.number in
    let full : plan.sessions ≤ sessions H = subst (λ (n : ℕ). plan.sessions ≤ n) number (subst (λ (n : ℕ). n ≤ c.sessions-session.result) c.sessions.ensures c.if-session-sessions.true) in
    let here = list_is_full b plan H booking items witness none (sym c.is_list_for.ensures.words ∙ c.if-not-is_list_for.false) full in
    subst (λ (r : Running g.row.D.Denot). FindsStartWithout r.bank r.plan booking items witness (history r.marks) (refuse (SessionsFull c.sessions-session.result))) c.self.view_is
    (subst (λ (n : ℕ). FindsStartWithout b plan booking items witness H (refuse (SessionsFull n))) (sym number) here)

pub returns-in-Err-clause-refused : goal.returns-in-Err-clause-refused
returns-in-Err-clause-refused g c =
    let o = c.self.inside in
    let b = o.bank.now in
    let plan = o.spec.now in
    let H = history o.marks in
    let booking = c.args.booking in
    let items = c.args.items.now in
    let witness = c.args.witness.now in
    let r = c.in-Err.refusal in
    let none : None ≡ holder H booking = subst (λ (G : List Entry). None ≡ holder G booking) c.self.invariant.0.entries (sym c.in_default.is ∙ c.booked.ensures) in
    let number : c.sessions-session.result ≡ sessions H = subst (λ (G : List Entry). c.sessions-session.result ≡ sessions G) c.self.invariant.0.entries c.sessions-session.ensures.number in
    let within : sessions H < plan.sessions = subst (λ (n : ℕ). n < plan.sessions) number (subst (λ (n : ℕ). c.sessions-session.result < n) c.sessions.ensures c.if-session-sessions.false) in
    let asked = subst (λ (r : Running g.row.D.Denot). IsListFor r.bank (has items) → IsWitness r.bank r.plan items witness) (sym c.self.view_is) c.requires in
    let found : IsWitness b plan items witness = asked (c.is_list_for.ensures.list c.if-not-is_list_for.false) in
    let lacks = subst (λ (w : Result (List ℕ) Refusal). IsWitness b plan items w) c.in-Err.is found in
    let here = witness_is_lacking b plan H booking items witness r none (sym c.is_list_for.ensures.words ∙ c.if-not-is_list_for.false) within c.in-Err.is lacks in
    subst (λ (v : Running g.row.D.Denot). FindsStartWithout v.bank v.plan booking items witness (history v.marks) (refuse r)) c.self.view_is here

pub returns-clause-found : goal.returns-clause-found
returns-clause-found g c =
    let o = c.self.inside in
    let b = o.bank.now in
    let plan = o.spec.now in
    let H = history o.marks in
    let booking = c.args.booking in
    let items = c.args.items.now in
    let witness = c.args.witness.now in
    let session = c.sessions-session.result in
    let eligible = c.drawn.result in
    let form = c.in-Ok.form in
    let entry : Entry = Started session booking eligible (Some (record { items = items; form = form })) in
    let none : None ≡ holder H booking = subst (λ (G : List Entry). None ≡ holder G booking) c.self.invariant.0.entries (sym c.in_default.is ∙ c.booked.ensures) in
    let number : session ≡ sessions H = subst (λ (G : List Entry). session ≡ sessions G) c.self.invariant.0.entries c.sessions-session.ensures.number in
    let within : session < plan.sessions = subst (λ (n : ℕ). session < n) c.sessions.ensures c.if-session-sessions.false in
    let asked = subst (λ (r : Running g.row.D.Denot). IsListFor r.bank (has items) → IsWitness r.bank r.plan items witness) (sym c.self.view_is) c.requires in
    let listed = c.is_list_for.ensures.list c.if-not-is_list_for.false in
    let is_form = subst (λ (w : Result (List ℕ) Refusal). IsWitness b plan items w) c.in-Ok.is (asked listed) in
    let is_drawn : AreDrawn b plan H (sessions H) eligible =
    subst (λ (G : List Entry). AreDrawn b plan G (sessions G) eligible) c.self.invariant.0.entries
    (subst (λ (p : Plan). AreDrawn b p o.book.entries (sessions o.book.entries) eligible) c.self.invariant.0.plan_is
    (subst (λ (t : Tables). AreDrawn t o.book.plan o.book.entries (sessions o.book.entries) eligible) c.self.invariant.0.bank c.drawn.ensures.drawn)) in
    let here = start_without_found b plan H booking items witness session eligible form none (sym c.is_list_for.ensures.words ∙ c.if-not-is_list_for.false) number within is_drawn listed c.in-Ok.is is_form in
    subst (λ (r : Running g.row.D.Denot). IsStartWithoutFound r.bank r.plan (history r.marks) booking items witness session (Some entry)) c.self.view_is here
