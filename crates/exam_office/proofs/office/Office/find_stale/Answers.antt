use Rattle.std.proofs.Common.{◌≡◌, ◌∙◌, List, Option, Some, sym, ap, subst}
use Rattle.std.proofs.Math.Bool.{true≢false}
use Rattle.bank_tables.specs.Tables.{Tables}
use Rattle.form_model.specs.Plan.{Plan}
use Rattle.history_model.specs.declared.entry.Entry.{Entry}
use Rattle.history_model.specs.declared.place.Place.{Place}
use Rattle.history_model.specs.declared.place.Place.TheVariants.{Pending}
use Rattle.exam_office.specs.Commits.{IsWaitingFor, IsStaleBy}
use Rattle.exam_office.specs.Marks.{history}
use Rattle.exam_office.specs.Running.{Running, handed}
use Rattle.exam_office.proofs.Committed.{moved_in}
use Rattle.exam_office.proofs.office.Office.find_stale.Goals as goal

pub returns-then-is_still-clause-none : goal.returns-then-is_still-clause-none
returns-then-is_still-clause-none g c =
    let o = c.self.inside in
    let s = c.args.session in
    let step = c.args.step in
    let aside = c.args.aside in
    let is = c.is_still.ensures.0 c.if-is_still.true in
    let here : IsWaitingFor o.book.bank o.book.plan o.book.entries s step aside = record {
      pending = sym c.place.ensures.place ∙ (c.in-Some.is ∙ ap (λ (p : Place). Some p) is.0);
      aside = sym c.is_aside-now_aside.ensures ∙ is.1;
    } in
    subst (λ (r : Running g.row.D.Denot). IsWaitingFor r.bank r.plan (history r.marks) s step aside) c.self.view_is
    (moved_in o.bank.now o.spec.now o.base o.book o.journal o.marks o.doubt (handed g.D.Disk.content g.D.Disk.accounts g.D.Disk.faults o.opened.value) c.self.invariant.0
    (λ (b : Tables) (p : Plan) (H : List Entry). IsWaitingFor b p H s step aside) here)

pub returns-clause-some : goal.returns-clause-some
returns-clause-some g c =
    let o = c.self.inside in
    let s = c.args.session in
    let step = c.args.step in
    let aside = c.args.aside in
    let at = c.in-Some.place in
    let now = c.is_aside-now_aside.result in
    let here : IsStaleBy o.book.bank o.book.plan o.book.entries s step aside at now = record {
      stands = sym c.place.ensures.place ∙ c.in-Some.is;
      flag_is = sym c.is_aside-now_aside.ensures;
      other = λ h.
          let there : ◌≡◌ {A = Option Place} (Some at) (Some (Pending step)) = sym c.in-Some.is ∙ (c.place.ensures.place ∙ h.pending) in
          let same : at ≡ Pending step = cc in
          true≢false (sym (c.is_still.ensures.1 (same, c.is_aside-now_aside.ensures ∙ h.aside)) ∙ c.if-is_still.false);
    } in
    subst (λ (r : Running g.row.D.Denot). IsStaleBy r.bank r.plan (history r.marks) s step aside at now) c.self.view_is
    (moved_in o.bank.now o.spec.now o.base o.book o.journal o.marks o.doubt (handed g.D.Disk.content g.D.Disk.accounts g.D.Disk.faults o.opened.value) c.self.invariant.0
    (λ (b : Tables) (p : Plan) (H : List Entry). IsStaleBy b p H s step aside at now) here)
