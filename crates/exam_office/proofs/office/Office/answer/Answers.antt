use Rattle.history_model.specs.Judging.{Record}
use Rattle.std.proofs.Common.{◌≡◌, Option, None, Some, Result, Ok, Err, OnOk, IsTrue, true, false, refl, sym, subst}
use Rattle.bank_tables.specs.Tables.{Tables}
use Rattle.form_model.specs.Plan.{Plan}
use Rattle.history_model.specs.declared.entry.Entry.TheVariants.{Answered}
use Rattle.history_model.specs.declared.refusal.Refusal.{Refusal}
use Rattle.answer_journal.specs.Journal.{accounts_of, tells_of}
use Rattle.exam_edge.specs.Images.{latest, AllImages}
use Rattle.exam_office.specs.Files.{StandsSecond}
use Rattle.exam_office.specs.Marks.{history}
use Rattle.exam_office.specs.Writing.{with_record}
use Rattle.exam_office.specs.Calls.{refuse, nothing, add, Calls, unmended, FindsAnswer, IsAnswerFound}
use Rattle.exam_office.proofs.Called.{call_refused, call_found, call_written, call_unwritten, left_mending, left_writing}
use Rattle.exam_office.proofs.Calling.{mending_left}
use Rattle.exam_office.proofs.Answered.{finds_there, answer_stands, looked, stands_written}
use Rattle.exam_office.proofs.office.Office.answer.Goals as goal

on_any : {A E : Type 0} (r : Result A E) (X : Type 0) → X → OnOk r X
on_any (Ok x) X here = here
on_any (Err e) X here = tt

pub returns-in-Err-clause-call : goal.returns-in-Err-clause-call
returns-in-Err-clause-call g c =
    let old = c.args.self.now in
    let mid = c.settle.new.self in
    let s = c.args.session in
    let k = c.args.step in
    let r = c.args.response in
    let named = c.args.booking in
    let H = history mid.marks in
    unmended c.in-Err.refusal c.in-Err.ensures.refused

pub returns-in-Err-clause-moments : goal.returns-in-Err-clause-moments
returns-in-Err-clause-moments g c =
    let old = c.args.self.now in
    let mid = c.settle.new.self in
    let s = c.args.session in
    let k = c.args.step in
    let r = c.args.response in
    let named = c.args.booking in
    let H = history mid.marks in
    λ told. mending_left old.bank old.plan (FindsAnswer old.bank old.plan s k r named) (history old.marks) old.doubt (accounts_of old.journal) (accounts_of mid.journal) (c.settle.ensures.moments told)

pub returns-in-Err-find_answer-clause-call : goal.returns-in-Err-find_answer-clause-call
returns-in-Err-find_answer-clause-call g c =
    let old = c.args.self.now in
    let mid = c.settle.new.self in
    let s = c.args.session in
    let k = c.args.step in
    let r = c.args.response in
    let named = c.args.booking in
    let H = history mid.marks in
    call_refused (FindsAnswer old.bank old.plan s k r named) old mid mid c.settle.ensures.same c.in-Ok.ensures.sure c.in-Ok.ensures.mended c.in-Err-find_answer.refusal (finds_there old mid c.settle.ensures.same (λ (b : Tables) (plan : Plan). FindsAnswer b plan s k r named) H (refuse c.in-Err-find_answer.refusal) c.in-Err-find_answer.ensures.refused)

pub returns-in-Err-find_answer-clause-moments : goal.returns-in-Err-find_answer-clause-moments
returns-in-Err-find_answer-clause-moments g c =
    let old = c.args.self.now in
    let mid = c.settle.new.self in
    let s = c.args.session in
    let k = c.args.step in
    let r = c.args.response in
    let named = c.args.booking in
    let H = history mid.marks in
    λ told. left_mending (FindsAnswer old.bank old.plan s k r named) old mid mid c.settle.ensures.same c.in-Ok.ensures.sure c.in-Ok.ensures.mended (c.settle.ensures.moments told)

pub returns-in-Ok-true-clause-moments : goal.returns-in-Ok-true-clause-moments
returns-in-Ok-true-clause-moments g c =
    let old = c.args.self.now in
    let mid = c.settle.new.self in
    let s = c.args.session in
    let k = c.args.step in
    let r = c.args.response in
    let named = c.args.booking in
    let H = history mid.marks in
    λ told. left_mending (FindsAnswer old.bank old.plan s k r named) old mid mid c.settle.ensures.same c.in-Ok.ensures.sure c.in-Ok.ensures.mended (c.settle.ensures.moments told)

pub returns-in-Ok-true-clause-call : goal.returns-in-Ok-true-clause-call
returns-in-Ok-true-clause-call g c =
    let old = c.args.self.now in
    let mid = c.settle.new.self in
    let s = c.args.session in
    let k = c.args.step in
    let r = c.args.response in
    let named = c.args.booking in
    let H = history mid.marks in
    let found : IsAnswerFound mid.bank mid.plan H s k r named true = rw c.in-Ok-true.field-0-test at c.in-Ok-true.ensures.found in
    let stands = answer_stands mid.bank mid.plan H s k r named found.0 in
    subst (λ (o : Option Refusal). Calls (FindsAnswer old.bank old.plan s k r named) old mid o)
    (looked mid.bank mid.plan H s stands.0 c.look.result stands.1 c.look.ensures.refused)
    (call_found (FindsAnswer old.bank old.plan s k r named) old mid mid c.settle.ensures.same c.in-Ok.ensures.sure c.in-Ok.ensures.mended (finds_there old mid c.settle.ensures.same (λ (b : Tables) (plan : Plan). FindsAnswer b plan s k r named) H nothing found))

pub returns-in-Ok-write-clause-call : goal.returns-in-Ok-write-clause-call
returns-in-Ok-write-clause-call g c =
    let old = c.args.self.now in
    let mid = c.settle.new.self in
    let s = c.args.session in
    let k = c.args.step in
    let r = c.args.response in
    let named = c.args.booking in
    let H = history mid.marks in
    let new = c.write.new.self in
    let entry = Answered s k r in
    let found : IsAnswerFound mid.bank mid.plan H s k r named false = rw c.in-Ok-false.field-0-test at c.in-Ok-false.ensures.found in
    let rec : Record = record { entry = entry; tree = None } in
    let stood = answer_stands mid.bank mid.plan H s k r named found.0 in
    let stands = stands_written mid.plan mid.marks new.marks entry (with_record mid.marks rec) s stood.0 stood.1 c.in-Ok-write.ensures.written in
    subst (λ (o : Option Refusal). Calls (FindsAnswer old.bank old.plan s k r named) old new o)
    (looked new.bank new.plan (history new.marks) s stands.0 c.look-in-Ok-write.result (subst (λ (p : Plan). Rattle.history_model.specs.Places.place p (history new.marks) s ≡ Some stands.0) (sym c.write.ensures.same.plan) stands.1) c.look-in-Ok-write.ensures.refused)
    (call_written (FindsAnswer old.bank old.plan s k r named) old mid new c.settle.ensures.same c.in-Ok.ensures.sure c.in-Ok.ensures.mended entry (with_record mid.marks rec) (finds_there old mid c.settle.ensures.same (λ (b : Tables) (plan : Plan). FindsAnswer b plan s k r named) H (add entry) found) c.in-Ok-write.ensures.written c.in-Ok-write.ensures.sure)

pub returns-in-Err-write-clause-call : goal.returns-in-Err-write-clause-call
returns-in-Err-write-clause-call g c =
    let old = c.args.self.now in
    let mid = c.settle.new.self in
    let s = c.args.session in
    let k = c.args.step in
    let r = c.args.response in
    let named = c.args.booking in
    let H = history mid.marks in
    let new = c.write.new.self in
    let entry = Answered s k r in
    let found : IsAnswerFound mid.bank mid.plan H s k r named false = rw c.in-Ok-false.field-0-test at c.in-Ok-false.ensures.found in
    let rec : Record = record { entry = entry; tree = None } in
    call_unwritten (FindsAnswer old.bank old.plan s k r named) old mid new c.settle.ensures.same c.in-Ok.ensures.sure c.in-Ok.ensures.mended rec c.in-Err-write.refusal (finds_there old mid c.settle.ensures.same (λ (b : Tables) (plan : Plan). FindsAnswer b plan s k r named) H (add entry) found) c.settle.ensures.frame.grows (found.3, refl) c.in-Err-write.ensures.refused

pub returns-in-Ok-write-clause-moments : goal.returns-in-Ok-write-clause-moments
returns-in-Ok-write-clause-moments g c =
    let old = c.args.self.now in
    let mid = c.settle.new.self in
    let s = c.args.session in
    let k = c.args.step in
    let r = c.args.response in
    let named = c.args.booking in
    let H = history mid.marks in
    let new = c.write.new.self in
    let entry = Answered s k r in
    let found : IsAnswerFound mid.bank mid.plan H s k r named false = rw c.in-Ok-false.field-0-test at c.in-Ok-false.ensures.found in
    let rec : Record = record { entry = entry; tree = None } in
    λ told. left_writing (FindsAnswer old.bank old.plan s k r named) old mid new c.settle.ensures.same c.in-Ok.ensures.sure c.in-Ok.ensures.mended entry (finds_there old mid c.settle.ensures.same (λ (b : Tables) (plan : Plan). FindsAnswer b plan s k r named) H (add entry) found) (c.settle.ensures.moments told) (c.write.ensures.moments (subst (λ (b : Rattle.std.specs.Prelude.Bool). Rattle.std.specs.Bool.IsTrue b) (sym c.settle.ensures.frame.tells) told))

pub returns-in-Err-write-clause-moments : goal.returns-in-Err-write-clause-moments
returns-in-Err-write-clause-moments g c =
    let old = c.args.self.now in
    let mid = c.settle.new.self in
    let s = c.args.session in
    let k = c.args.step in
    let r = c.args.response in
    let named = c.args.booking in
    let H = history mid.marks in
    let new = c.write.new.self in
    let entry = Answered s k r in
    let found : IsAnswerFound mid.bank mid.plan H s k r named false = rw c.in-Ok-false.field-0-test at c.in-Ok-false.ensures.found in
    let rec : Record = record { entry = entry; tree = None } in
    λ told. left_writing (FindsAnswer old.bank old.plan s k r named) old mid new c.settle.ensures.same c.in-Ok.ensures.sure c.in-Ok.ensures.mended entry (finds_there old mid c.settle.ensures.same (λ (b : Tables) (plan : Plan). FindsAnswer b plan s k r named) H (add entry) found) (c.settle.ensures.moments told) (c.write.ensures.moments (subst (λ (b : Rattle.std.specs.Prelude.Bool). Rattle.std.specs.Bool.IsTrue b) (sym c.settle.ensures.frame.tells) told))

pub write-requires-clause-may : goal.write-requires-clause-may
write-requires-clause-may g c =
    let mid = c.settle.new.self in
    let found : IsAnswerFound mid.bank mid.plan (history mid.marks) c.args.session c.args.step c.args.response c.args.booking false = rw c.in-Ok-false.field-0-test at c.in-Ok-false.ensures.found in
    (found.3, refl)

-- what a crash leaves once the record is written
pub returns-in-Ok-write-clause-images : goal.returns-in-Ok-write-clause-images
returns-in-Ok-write-clause-images g c =
    let old = c.args.self.now in
    let mid = c.settle.new.self in
    let new = c.write.new.self in
    on_any c.look-in-Ok-write.result (IsTrue (tells_of old.journal) → AllImages (StandsSecond old.bank old.plan (history new.marks)) (latest (accounts_of new.journal)))
    (λ told. subst (λ (p : Plan). AllImages (StandsSecond old.bank p (history new.marks)) (latest (accounts_of new.journal))) c.settle.ensures.same.plan
    (subst (λ (b : Tables). AllImages (StandsSecond b mid.plan (history new.marks)) (latest (accounts_of new.journal))) c.settle.ensures.same.bank
    (c.in-Ok-write.ensures.images (subst (λ (b : Rattle.std.specs.Prelude.Bool). IsTrue b) (sym c.settle.ensures.frame.tells) told))))
