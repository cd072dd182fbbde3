use Rattle.std.proofs.Common.{◌≡◌, ◌∙◌, List, length, Option, None, IsTrue, sym, ap, subst}
use Rattle.exam_edge.specs.Images.{Account, AllImages, latest}
use Rattle.answer_journal.specs.Journal.{accounts_of, content_of}
use Rattle.history_model.specs.declared.entry.Entry.{Entry}
use Rattle.exam_office.specs.Keeping.{IsSure, IsBacked}
use Rattle.exam_office.specs.Marks.{history, reach}
use Rattle.exam_office.specs.Running.{Running}
use Rattle.exam_office.specs.Writing.{IsMending}
use Rattle.exam_office.proofs.Moments.{each_image}
use Rattle.exam_office.proofs.office.Office.into_disk.Goals as goal

pub returns-clause-images : goal.returns-clause-images
returns-clause-images g c = λ told.
    let o = c.self.inside in
    let now = c.args.self in
    let kept = c.self.invariant.0 in
    let here : AllImages (IsMending o.bank.now o.spec.now (history o.marks) o.doubt) (latest (accounts_of o.journal)) = each_image o.bank.now o.spec.now o.journal o.marks o.doubt o.book.room kept.backed (subst IsTrue c.into_disk.ensures.tells told) in
    let there : AllImages (IsMending now.bank now.plan (history now.marks) now.doubt) (latest (accounts_of o.journal)) = subst (λ (r : Running g.row.D.Denot). AllImages (IsMending r.bank r.plan (history r.marks) r.doubt) (latest (accounts_of o.journal))) c.self.view_is here in
    subst (λ (accounts : List Account). AllImages (IsMending now.bank now.plan (history now.marks) now.doubt) (latest accounts)) (sym c.into_disk.ensures.accounts) there

pub returns-clause-content : goal.returns-clause-content
returns-clause-content g c = λ told. returns-clause-images g c told (g.D.Disk.content c.into_disk.result) (g.met.D.Disk.is_image c.into_disk.result told)

pub returns-clause-length : goal.returns-clause-length
returns-clause-length g c = λ told sure.
    let o = c.self.inside in
    let kept = c.self.invariant.0 in
    let none : o.doubt ≡ None = ap (λ (r : Running g.row.D.Denot). r.doubt) c.self.view_is ∙ sure in
    let is : IsSure o.bank.now o.spec.now (history o.marks) o.journal = subst (λ (d : Option Entry). IsBacked o.bank.now o.spec.now o.marks o.book.room o.journal d) none kept.backed in
    let rest = is.ready.rest (subst IsTrue c.into_disk.ensures.tells told) in
    let there : length (content_of o.journal) ≡ reach o.marks = sym rest.size_is ∙ kept.size in
    ap length c.into_disk.ensures.content ∙ (there ∙ ap (λ (r : Running g.row.D.Denot). reach r.marks) c.self.view_is)
