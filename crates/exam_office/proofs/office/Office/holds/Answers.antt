use Rattle.std.proofs.Common.{◌∙◌, ◌≤◌, ap, subst, arith}
use Rattle.answer_journal.specs.Journal.{length_of}
use Rattle.exam_office.specs.Running.{handed, Running}
use Rattle.exam_office.proofs.PayloadLaws.{holds_now, images_now, length_now, limit_now, ready_now}
use Rattle.exam_office.proofs.ReadingLaws.{ends_there}
use Rattle.exam_office.proofs.office.Office.holds.Goals as goal

pub returns-clause-records : goal.returns-clause-records
returns-clause-records g c =
    let o = c.self.inside in
    λ none. holds_now o.bank.now o.spec.now o.base o.book o.journal o.marks o.doubt (handed g.D.Disk.content g.D.Disk.accounts g.D.Disk.faults o.opened.value) c.self.invariant.0 c.args.self.now c.self.view_is (ap (λ (r : Running g.row.D.Denot). r.doubt) c.self.view_is ∙ none)

pub returns-clause-images : goal.returns-clause-images
returns-clause-images g c =
    let o = c.self.inside in
    λ none. images_now o.bank.now o.spec.now o.base o.book o.journal o.marks o.doubt (handed g.D.Disk.content g.D.Disk.accounts g.D.Disk.faults o.opened.value) c.self.invariant.0 c.args.self.now c.self.view_is (ap (λ (r : Running g.row.D.Denot). r.doubt) c.self.view_is ∙ none)

pub returns-clause-frames : goal.returns-clause-frames
returns-clause-frames g c =
    let o = c.self.inside in
    λ none told. ends_there c.args.self.now.journal (ready_now o.bank.now o.spec.now o.base o.book o.journal o.marks o.doubt (handed g.D.Disk.content g.D.Disk.accounts g.D.Disk.faults o.opened.value) c.self.invariant.0 c.args.self.now c.self.view_is (ap (λ (r : Running g.row.D.Denot). r.doubt) c.self.view_is ∙ none)) told

pub returns-clause-length : goal.returns-clause-length
returns-clause-length g c =
    let o = c.self.inside in
    length_now o.bank.now o.spec.now o.base o.book o.journal o.marks o.doubt (handed g.D.Disk.content g.D.Disk.accounts g.D.Disk.faults o.opened.value) c.self.invariant.0 c.args.self.now c.self.view_is

pub returns-clause-limit : goal.returns-clause-limit
returns-clause-limit g c =
    let o = c.self.inside in
    limit_now o.bank.now o.spec.now o.base o.book o.journal o.marks o.doubt (handed g.D.Disk.content g.D.Disk.accounts g.D.Disk.faults o.opened.value) c.self.invariant.0 c.args.self.now c.self.view_is

pub returns-clause-short : goal.returns-clause-short
returns-clause-short g c =
    let o = c.self.inside in
    let l = c.length.ensures.lengths in
    let short : length_of o.journal ≤ 536870912 = omega (arith, l.within, l.limited) in
    subst (λ (r : Running g.row.D.Denot). length_of r.journal ≤ 536870912) c.self.view_is short
