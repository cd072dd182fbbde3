use Rattle.std.proofs.Common.{◌≡◌, ◌∙◌, ℕ, ◌+◌, Some, None, IsTrue, sym, ap, subst}
use Rattle.std.specs.List.{slice_get}
use Rattle.answer_journal.specs.Journal.{length_of, tells_of, payloads_of}
use Rattle.exam_office.specs.declared.cursor.Cursor.{Cursor}
use Rattle.exam_office.specs.Marks.{history}
use Rattle.exam_office.specs.Payloads.{IsCursorOf}
use Rattle.exam_office.specs.Running.{handed, Running}
use Rattle.exam_office.proofs.PayloadLaws.{ready_here}
use Rattle.exam_office.proofs.ReadingLaws.{kept_read, vectors_read, is_past, record_there, cursor_on, cursor_still}
use Rattle.exam_office.proofs.office.Office.next_record.Goals as goal

pub read_frame-requires-clause-ready : goal.read_frame-requires-clause-ready
read_frame-requires-clause-ready g c =
    let o = c.self.inside in
    let j = o.journal in
    let none : o.doubt ≡ None = ap (λ (r : Running g.row.D.Denot). r.doubt) c.self.view_is ∙ c.requires.sure in
    let ready = ready_here o.bank.now o.spec.now o.base o.book o.journal o.marks o.doubt (handed g.D.Disk.content g.D.Disk.accounts g.D.Disk.faults o.opened.value) c.self.invariant.0 c.args.self.now c.self.view_is none in
    let cursor : Cursor = c.args.cursor.now in
    let here : IsCursorOf j cursor = subst (λ (r : Running g.row.D.Denot). IsCursorOf r.journal cursor) (sym c.self.view_is) c.requires.cursor in
    ready

pub read_frame-requires-clause-gate : goal.read_frame-requires-clause-gate
read_frame-requires-clause-gate g c =
    let o = c.self.inside in
    let j = o.journal in
    let none : o.doubt ≡ None = ap (λ (r : Running g.row.D.Denot). r.doubt) c.self.view_is ∙ c.requires.sure in
    let ready = ready_here o.bank.now o.spec.now o.base o.book o.journal o.marks o.doubt (handed g.D.Disk.content g.D.Disk.accounts g.D.Disk.faults o.opened.value) c.self.invariant.0 c.args.self.now c.self.view_is none in
    let cursor : Cursor = c.args.cursor.now in
    let here : IsCursorOf j cursor = subst (λ (r : Running g.row.D.Denot). IsCursorOf r.journal cursor) (sym c.self.view_is) c.requires.cursor in
    here.within

pub invariant_of-self : goal.invariant_of-self
invariant_of-self g c =
    let o = c.self.inside in
    let j = o.journal in
    let none : o.doubt ≡ None = ap (λ (r : Running g.row.D.Denot). r.doubt) c.self.view_is ∙ c.requires.sure in
    let ready = ready_here o.bank.now o.spec.now o.base o.book o.journal o.marks o.doubt (handed g.D.Disk.content g.D.Disk.accounts g.D.Disk.faults o.opened.value) c.self.invariant.0 c.args.self.now c.self.view_is none in
    let cursor : Cursor = c.args.cursor.now in
    let here : IsCursorOf j cursor = subst (λ (r : Running g.row.D.Denot). IsCursorOf r.journal cursor) (sym c.self.view_is) c.requires.cursor in
    let j1 = c.read_frame.new.self in
    let e = c.read_frame.ensures in (
      kept_read o.bank.now o.spec.now j j1 e.frame.tells e.content o.base (handed g.D.Disk.content g.D.Disk.accounts g.D.Disk.faults o.opened.value) o.book o.marks o.doubt none c.self.invariant.0 e.ready e.length e.limit e.versions.1 e.frame.grows e.accounts,
      vectors_read o.bank.now o.spec.now j j1 e.frame.tells e.content (history o.marks) o.doubt o.vectors.each.items o.vectors.doubt none c.self.invariant.1,
      c.self.invariant.2,
    )

pub returns-clause-record : goal.returns-clause-record
returns-clause-record g c =
    let o = c.self.inside in
    let j = o.journal in
    let none : o.doubt ≡ None = ap (λ (r : Running g.row.D.Denot). r.doubt) c.self.view_is ∙ c.requires.sure in
    let ready = ready_here o.bank.now o.spec.now o.base o.book o.journal o.marks o.doubt (handed g.D.Disk.content g.D.Disk.accounts g.D.Disk.faults o.opened.value) c.self.invariant.0 c.args.self.now c.self.view_is none in
    let cursor : Cursor = c.args.cursor.now in
    let here : IsCursorOf j cursor = subst (λ (r : Running g.row.D.Denot). IsCursorOf r.journal cursor) (sym c.self.view_is) c.requires.cursor in
    let j1 = c.read_frame.new.self in
    let e = c.read_frame.ensures in
    let is = c.in-Some.is in
    let p = c.in-Some.payload.items in
    let not_last : cursor.at + 1 ≡ length_of j → ⊥ = λ last. let ended = c.in-Ok.ensures.end last in absurd (cc) in
    let reads = rw is at c.in-Ok.ensures.payload in
    subst (λ (r : Running g.row.D.Denot). IsTrue (tells_of r.journal) → Some p ≡ slice_get (payloads_of r.journal) cursor.number) c.self.view_is
    (record_there j ready cursor here p not_last reads)

pub returns-clause-cursor : goal.returns-clause-cursor
returns-clause-cursor g c =
    let o = c.self.inside in
    let j = o.journal in
    let none : o.doubt ≡ None = ap (λ (r : Running g.row.D.Denot). r.doubt) c.self.view_is ∙ c.requires.sure in
    let ready = ready_here o.bank.now o.spec.now o.base o.book o.journal o.marks o.doubt (handed g.D.Disk.content g.D.Disk.accounts g.D.Disk.faults o.opened.value) c.self.invariant.0 c.args.self.now c.self.view_is none in
    let cursor : Cursor = c.args.cursor.now in
    let here : IsCursorOf j cursor = subst (λ (r : Running g.row.D.Denot). IsCursorOf r.journal cursor) (sym c.self.view_is) c.requires.cursor in
    let j1 = c.read_frame.new.self in
    let e = c.read_frame.ensures in
    let is = c.in-Some.is in
    let p = c.in-Some.payload.items in
    let not_last : cursor.at + 1 ≡ length_of j → ⊥ = λ last. let ended = c.in-Ok.ensures.end last in absurd (cc) in
    let reads = rw is at c.in-Ok.ensures.payload in
    subst (λ (n : ℕ). IsCursorOf j1 (record { number = cursor.number + 1; at = cursor.at + (5 + n) })) (sym (c.len.ensures ∙ c.in-Some.payload.ok.0))
    (cursor_on j ready cursor here p not_last reads j1 e.frame.tells e.content e.length e.versions.1 (c.in-Ok.ensures.room c.in-Some.payload is))

pub returns-in_default-clause-record : goal.returns-in_default-clause-record
returns-in_default-clause-record g c =
    let o = c.self.inside in
    let j = o.journal in
    let none : o.doubt ≡ None = ap (λ (r : Running g.row.D.Denot). r.doubt) c.self.view_is ∙ c.requires.sure in
    let ready = ready_here o.bank.now o.spec.now o.base o.book o.journal o.marks o.doubt (handed g.D.Disk.content g.D.Disk.accounts g.D.Disk.faults o.opened.value) c.self.invariant.0 c.args.self.now c.self.view_is none in
    let cursor : Cursor = c.args.cursor.now in
    let here : IsCursorOf j cursor = subst (λ (r : Running g.row.D.Denot). IsCursorOf r.journal cursor) (sym c.self.view_is) c.requires.cursor in
    let is = c.in_default.is in
    subst (λ (r : Running g.row.D.Denot). IsTrue (tells_of r.journal) → None ≡ slice_get (payloads_of r.journal) cursor.number) c.self.view_is
    (λ told. sym (is_past j ready cursor here (λ told k lt place. rw is at (c.in-Ok.ensures.payload told k lt place)) told))

pub returns-in_default-clause-cursor : goal.returns-in_default-clause-cursor
returns-in_default-clause-cursor g c =
    let o = c.self.inside in
    let j = o.journal in
    let none : o.doubt ≡ None = ap (λ (r : Running g.row.D.Denot). r.doubt) c.self.view_is ∙ c.requires.sure in
    let ready = ready_here o.bank.now o.spec.now o.base o.book o.journal o.marks o.doubt (handed g.D.Disk.content g.D.Disk.accounts g.D.Disk.faults o.opened.value) c.self.invariant.0 c.args.self.now c.self.view_is none in
    let cursor : Cursor = c.args.cursor.now in
    let here : IsCursorOf j cursor = subst (λ (r : Running g.row.D.Denot). IsCursorOf r.journal cursor) (sym c.self.view_is) c.requires.cursor in
    let j1 = c.read_frame.new.self in
    let e = c.read_frame.ensures in
    cursor_still j ready cursor here j1 e.frame.tells e.content e.length e.versions.1

pub returns-in-Err-Disk-clause-cursor : goal.returns-in-Err-Disk-clause-cursor
returns-in-Err-Disk-clause-cursor g c =
    let o = c.self.inside in
    let j = o.journal in
    let none : o.doubt ≡ None = ap (λ (r : Running g.row.D.Denot). r.doubt) c.self.view_is ∙ c.requires.sure in
    let ready = ready_here o.bank.now o.spec.now o.base o.book o.journal o.marks o.doubt (handed g.D.Disk.content g.D.Disk.accounts g.D.Disk.faults o.opened.value) c.self.invariant.0 c.args.self.now c.self.view_is none in
    let cursor : Cursor = c.args.cursor.now in
    let here : IsCursorOf j cursor = subst (λ (r : Running g.row.D.Denot). IsCursorOf r.journal cursor) (sym c.self.view_is) c.requires.cursor in
    let j1 = c.read_frame.new.self in
    let e = c.read_frame.ensures in
    cursor_still j ready cursor here j1 e.frame.tells e.content e.length e.versions.1

pub returns-in-Err-Memory-clause-cursor : goal.returns-in-Err-Memory-clause-cursor
returns-in-Err-Memory-clause-cursor g c =
    let o = c.self.inside in
    let j = o.journal in
    let none : o.doubt ≡ None = ap (λ (r : Running g.row.D.Denot). r.doubt) c.self.view_is ∙ c.requires.sure in
    let ready = ready_here o.bank.now o.spec.now o.base o.book o.journal o.marks o.doubt (handed g.D.Disk.content g.D.Disk.accounts g.D.Disk.faults o.opened.value) c.self.invariant.0 c.args.self.now c.self.view_is none in
    let cursor : Cursor = c.args.cursor.now in
    let here : IsCursorOf j cursor = subst (λ (r : Running g.row.D.Denot). IsCursorOf r.journal cursor) (sym c.self.view_is) c.requires.cursor in
    let j1 = c.read_frame.new.self in
    let e = c.read_frame.ensures in
    cursor_still j ready cursor here j1 e.frame.tells e.content e.length e.versions.1
