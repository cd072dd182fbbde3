use Rattle.history_model.specs.Judging.{Record}
use Rattle.std.proofs.Common.{◌≡◌, Option, None, Some, Result, Ok, Err, OnOk, IsTrue, refl, sym, subst}
use Rattle.bank_tables.specs.Tables.{Tables}
use Rattle.form_model.specs.Plan.{Plan}
use Rattle.history_model.specs.declared.entry.Entry.TheVariants.{Closed}
use Rattle.history_model.specs.Places.{place}
use Rattle.history_model.specs.declared.refusal.Refusal.{Refusal}
use Rattle.answer_journal.specs.Journal.{accounts_of, tells_of}
use Rattle.exam_edge.specs.Images.{latest, AllImages}
use Rattle.exam_office.specs.Files.{StandsSecond}
use Rattle.exam_office.specs.Marks.{history}
use Rattle.exam_office.specs.Writing.{with_record}
use Rattle.exam_office.specs.Calls.{refuse, add, Calls, unmended, FindsClosing}
use Rattle.exam_office.proofs.Called.{call_refused, call_written, call_unwritten, left_mending, left_writing}
use Rattle.exam_office.proofs.Calling.{mending_left}
use Rattle.exam_office.proofs.Answered.{finds_there, closing_stands, looked, stands_written}
use Rattle.exam_office.proofs.office.Office.close.Goals as goal

on_any : {A E : Type 0} (r : Result A E) (X : Type 0) → X → OnOk r X
on_any (Ok x) X here = here
on_any (Err e) X here = tt

pub returns-in-Err-clause-call : goal.returns-in-Err-clause-call
returns-in-Err-clause-call g c =
    let old = c.args.self.now in
    let mid = c.settle.new.self in
    let s = c.args.session in
    let named = c.args.booking in
    let H = history mid.marks in
    unmended c.in-Err.refusal c.in-Err.ensures.refused

pub returns-in-Err-clause-moments : goal.returns-in-Err-clause-moments
returns-in-Err-clause-moments g c =
    let old = c.args.self.now in
    let mid = c.settle.new.self in
    let s = c.args.session in
    let named = c.args.booking in
    let H = history mid.marks in
    λ told. mending_left old.bank old.plan (FindsClosing old.bank old.plan s named) (history old.marks) old.doubt (accounts_of old.journal) (accounts_of mid.journal) (c.settle.ensures.moments told)

pub returns-in-Err-find_closing-clause-call : goal.returns-in-Err-find_closing-clause-call
returns-in-Err-find_closing-clause-call g c =
    let old = c.args.self.now in
    let mid = c.settle.new.self in
    let s = c.args.session in
    let named = c.args.booking in
    let H = history mid.marks in
    call_refused (FindsClosing old.bank old.plan s named) old mid mid c.settle.ensures.same c.in-Ok.ensures.sure c.in-Ok.ensures.mended c.in-Err-find_closing.refusal (finds_there old mid c.settle.ensures.same (λ (b : Tables) (plan : Plan). FindsClosing b plan s named) H (refuse c.in-Err-find_closing.refusal) c.in-Err-find_closing.ensures.refused)

pub returns-in-Err-find_closing-clause-moments : goal.returns-in-Err-find_closing-clause-moments
returns-in-Err-find_closing-clause-moments g c =
    let old = c.args.self.now in
    let mid = c.settle.new.self in
    let s = c.args.session in
    let named = c.args.booking in
    let H = history mid.marks in
    λ told. left_mending (FindsClosing old.bank old.plan s named) old mid mid c.settle.ensures.same c.in-Ok.ensures.sure c.in-Ok.ensures.mended (c.settle.ensures.moments told)

pub returns-in-Ok-write-clause-call : goal.returns-in-Ok-write-clause-call
returns-in-Ok-write-clause-call g c =
    let old = c.args.self.now in
    let mid = c.settle.new.self in
    let s = c.args.session in
    let named = c.args.booking in
    let H = history mid.marks in
    let new = c.write.new.self in
    let entry = Closed s in
    let rec : Record = record { entry = entry; tree = None } in
    let found = c.in-Ok-find_closing.ensures.found in
    let stood = closing_stands mid.bank mid.plan H s named found.0 in
    let stands = stands_written mid.plan mid.marks new.marks entry (with_record mid.marks rec) s stood.0 stood.1 c.in-Ok-write.ensures.written in
    subst (λ (o : Option Refusal). Calls (FindsClosing old.bank old.plan s named) old new o)
    (looked new.bank new.plan (history new.marks) s stands.0 c.look.result (subst (λ (p : Plan). place p (history new.marks) s ≡ Some stands.0) (sym c.write.ensures.same.plan) stands.1) c.look.ensures.refused)
    (call_written (FindsClosing old.bank old.plan s named) old mid new c.settle.ensures.same c.in-Ok.ensures.sure c.in-Ok.ensures.mended entry (with_record mid.marks rec) (finds_there old mid c.settle.ensures.same (λ (b : Tables) (plan : Plan). FindsClosing b plan s named) H (add entry) found) c.in-Ok-write.ensures.written c.in-Ok-write.ensures.sure)

pub returns-in-Err-write-clause-call : goal.returns-in-Err-write-clause-call
returns-in-Err-write-clause-call g c =
    let old = c.args.self.now in
    let mid = c.settle.new.self in
    let s = c.args.session in
    let named = c.args.booking in
    let H = history mid.marks in
    let new = c.write.new.self in
    let entry = Closed s in
    let rec : Record = record { entry = entry; tree = None } in
    let found = c.in-Ok-find_closing.ensures.found in
    call_unwritten (FindsClosing old.bank old.plan s named) old mid new c.settle.ensures.same c.in-Ok.ensures.sure c.in-Ok.ensures.mended rec c.in-Err-write.refusal (finds_there old mid c.settle.ensures.same (λ (b : Tables) (plan : Plan). FindsClosing b plan s named) H (add entry) found) c.settle.ensures.frame.grows (found.2, refl) c.in-Err-write.ensures.refused

pub returns-in-Ok-write-clause-moments : goal.returns-in-Ok-write-clause-moments
returns-in-Ok-write-clause-moments g c =
    let old = c.args.self.now in
    let mid = c.settle.new.self in
    let s = c.args.session in
    let named = c.args.booking in
    let H = history mid.marks in
    let new = c.write.new.self in
    let entry = Closed s in
    let rec : Record = record { entry = entry; tree = None } in
    let found = c.in-Ok-find_closing.ensures.found in
    λ told. left_writing (FindsClosing old.bank old.plan s named) old mid new c.settle.ensures.same c.in-Ok.ensures.sure c.in-Ok.ensures.mended entry (finds_there old mid c.settle.ensures.same (λ (b : Tables) (plan : Plan). FindsClosing b plan s named) H (add entry) found) (c.settle.ensures.moments told) (c.write.ensures.moments (subst (λ (b : Rattle.std.specs.Prelude.Bool). Rattle.std.specs.Bool.IsTrue b) (sym c.settle.ensures.frame.tells) told))

pub returns-in-Err-write-clause-moments : goal.returns-in-Err-write-clause-moments
returns-in-Err-write-clause-moments g c =
    let old = c.args.self.now in
    let mid = c.settle.new.self in
    let s = c.args.session in
    let named = c.args.booking in
    let H = history mid.marks in
    let new = c.write.new.self in
    let entry = Closed s in
    let rec : Record = record { entry = entry; tree = None } in
    let found = c.in-Ok-find_closing.ensures.found in
    λ told. left_writing (FindsClosing old.bank old.plan s named) old mid new c.settle.ensures.same c.in-Ok.ensures.sure c.in-Ok.ensures.mended entry (finds_there old mid c.settle.ensures.same (λ (b : Tables) (plan : Plan). FindsClosing b plan s named) H (add entry) found) (c.settle.ensures.moments told) (c.write.ensures.moments (subst (λ (b : Rattle.std.specs.Prelude.Bool). Rattle.std.specs.Bool.IsTrue b) (sym c.settle.ensures.frame.tells) told))

pub write-requires-clause-may : goal.write-requires-clause-may
write-requires-clause-may g c = (c.in-Ok-find_closing.ensures.found.2, refl)

-- what a crash leaves once the record is written
pub returns-in-Ok-write-clause-images : goal.returns-in-Ok-write-clause-images
returns-in-Ok-write-clause-images g c =
    let old = c.args.self.now in
    let mid = c.settle.new.self in
    let new = c.write.new.self in
    on_any c.look.result (IsTrue (tells_of old.journal) → AllImages (StandsSecond old.bank old.plan (history new.marks)) (latest (accounts_of new.journal)))
    (λ told. subst (λ (p : Plan). AllImages (StandsSecond old.bank p (history new.marks)) (latest (accounts_of new.journal))) c.settle.ensures.same.plan
    (subst (λ (b : Tables). AllImages (StandsSecond b mid.plan (history new.marks)) (latest (accounts_of new.journal))) c.settle.ensures.same.bank
    (c.in-Ok-write.ensures.images (subst (λ (b : Rattle.std.specs.Prelude.Bool). IsTrue b) (sym c.settle.ensures.frame.tells) told))))
