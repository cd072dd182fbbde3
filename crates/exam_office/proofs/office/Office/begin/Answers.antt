use Rattle.std.proofs.Common.{None, Some, IsTrue, sym, subst}
use Rattle.history_model.specs.declared.entry.Entry.{Entry}
use Rattle.bank_tables.specs.Tables.{Tables}
use Rattle.form_model.specs.Plan.{Plan}
use Rattle.history_model.specs.Judging.{Record}
use Rattle.answer_journal.specs.Journal.{accounts_of}
use Rattle.exam_edge.specs.Images.{latest, AllImages}
use Rattle.exam_office.specs.Files.{StandsSecond}
use Rattle.exam_office.specs.Marks.{history}
use Rattle.exam_office.specs.Writing.{with_record}
use Rattle.exam_office.specs.Calls.{refuse, nothing, add, unmended, FindsStart, IsStartFound}
use Rattle.exam_office.proofs.Called.{call_refused, call_found, call_written, call_unwritten, left_mending, left_writing}
use Rattle.exam_office.proofs.Calling.{mending_left}
use Rattle.exam_office.proofs.Answered.{finds_there}
use Rattle.exam_office.proofs.Starts.{may_start, held_written}
use Rattle.exam_office.proofs.office.Office.begin.Goals as goal

pub returns-in-Err-clause-call : goal.returns-in-Err-clause-call
returns-in-Err-clause-call g c =
    let old = c.args.self.now in
    let mid = c.settle.new.self in
    let booking = c.args.booking in
    let H = history mid.marks in
    unmended c.in-Err.refusal c.in-Err.ensures.refused

pub returns-in-Err-clause-moments : goal.returns-in-Err-clause-moments
returns-in-Err-clause-moments g c =
    let old = c.args.self.now in
    let mid = c.settle.new.self in
    let booking = c.args.booking in
    let H = history mid.marks in
    λ told. mending_left old.bank old.plan (FindsStart old.bank old.plan booking) (history old.marks) old.doubt (accounts_of old.journal) (accounts_of mid.journal) (c.settle.ensures.moments told)

pub returns-in-Err-find_start-clause-call : goal.returns-in-Err-find_start-clause-call
returns-in-Err-find_start-clause-call g c =
    let old = c.args.self.now in
    let mid = c.settle.new.self in
    let booking = c.args.booking in
    let H = history mid.marks in
    call_refused (FindsStart old.bank old.plan booking) old mid mid c.settle.ensures.same c.in-Ok.ensures.sure c.in-Ok.ensures.mended c.in-Err-find_start.refusal (finds_there old mid c.settle.ensures.same (λ (b : Tables) (plan : Plan). FindsStart b plan booking) H (refuse c.in-Err-find_start.refusal) c.in-Err-find_start.ensures.refused)

pub returns-in-Err-find_start-clause-moments : goal.returns-in-Err-find_start-clause-moments
returns-in-Err-find_start-clause-moments g c =
    let old = c.args.self.now in
    let mid = c.settle.new.self in
    let booking = c.args.booking in
    let H = history mid.marks in
    λ told. left_mending (FindsStart old.bank old.plan booking) old mid mid c.settle.ensures.same c.in-Ok.ensures.sure c.in-Ok.ensures.mended (c.settle.ensures.moments told)

pub returns-in-Ok-default-None-clause-moments : goal.returns-in-Ok-default-None-clause-moments
returns-in-Ok-default-None-clause-moments g c =
    let old = c.args.self.now in
    let mid = c.settle.new.self in
    let booking = c.args.booking in
    let H = history mid.marks in
    λ told. left_mending (FindsStart old.bank old.plan booking) old mid mid c.settle.ensures.same c.in-Ok.ensures.sure c.in-Ok.ensures.mended (c.settle.ensures.moments told)

pub returns-in-Ok-default-None-clause-call : goal.returns-in-Ok-default-None-clause-call
returns-in-Ok-default-None-clause-call g c =
    let old = c.args.self.now in
    let mid = c.settle.new.self in
    let booking = c.args.booking in
    let H = history mid.marks in
    let found : IsStartFound mid.bank mid.plan H booking c.in-Ok-default-None.session None = rw c.in-Ok-default-None.field-0-1-is at c.in-Ok-default-None.ensures.found in
    call_found (FindsStart old.bank old.plan booking) old mid mid c.settle.ensures.same c.in-Ok.ensures.sure c.in-Ok.ensures.mended (finds_there old mid c.settle.ensures.same (λ (b : Tables) (plan : Plan). FindsStart b plan booking) H nothing found.0)

pub returns-in-Ok-write-clause-call : goal.returns-in-Ok-write-clause-call
returns-in-Ok-write-clause-call g c =
    let old = c.args.self.now in
    let mid = c.settle.new.self in
    let booking = c.args.booking in
    let H = history mid.marks in
    let new = c.write.new.self in
    let entry : Entry = c.in-Ok-default-Some.entry in
    let rec : Record = record { entry = entry; tree = None } in
    let found : IsStartFound mid.bank mid.plan H booking c.in-Ok-default-Some.session (Some entry) = rw c.in-Ok-default-Some.field-0-1-is at c.in-Ok-default-Some.ensures.found in
    call_written (FindsStart old.bank old.plan booking) old mid new c.settle.ensures.same c.in-Ok.ensures.sure c.in-Ok.ensures.mended rec.entry (with_record mid.marks rec) (finds_there old mid c.settle.ensures.same (λ (b : Tables) (plan : Plan). FindsStart b plan booking) H (add rec.entry) found.0) c.in-Ok-write.ensures.written c.in-Ok-write.ensures.sure

pub returns-in-Ok-write-clause-session : goal.returns-in-Ok-write-clause-session
returns-in-Ok-write-clause-session g c =
    let old = c.args.self.now in
    let mid = c.settle.new.self in
    let booking = c.args.booking in
    let H = history mid.marks in
    let new = c.write.new.self in
    let entry : Entry = c.in-Ok-default-Some.entry in
    let rec : Record = record { entry = entry; tree = None } in
    let found : IsStartFound mid.bank mid.plan H booking c.in-Ok-default-Some.session (Some entry) = rw c.in-Ok-default-Some.field-0-1-is at c.in-Ok-default-Some.ensures.found in
    held_written mid.marks new.marks rec.entry (with_record mid.marks rec) c.in-Ok-default-Some.session booking c.in-Ok-write.ensures.written found.1

pub returns-in-Err-write-clause-call : goal.returns-in-Err-write-clause-call
returns-in-Err-write-clause-call g c =
    let old = c.args.self.now in
    let mid = c.settle.new.self in
    let booking = c.args.booking in
    let H = history mid.marks in
    let new = c.write.new.self in
    let entry : Entry = c.in-Ok-default-Some.entry in
    let rec : Record = record { entry = entry; tree = None } in
    let found : IsStartFound mid.bank mid.plan H booking c.in-Ok-default-Some.session (Some entry) = rw c.in-Ok-default-Some.field-0-1-is at c.in-Ok-default-Some.ensures.found in
    call_unwritten (FindsStart old.bank old.plan booking) old mid new c.settle.ensures.same c.in-Ok.ensures.sure c.in-Ok.ensures.mended rec c.in-Err-write.refusal (finds_there old mid c.settle.ensures.same (λ (b : Tables) (plan : Plan). FindsStart b plan booking) H (add rec.entry) found.0) c.settle.ensures.frame.grows (may_start mid.bank mid.plan H booking entry c.in-Ok-default-Some.session found) c.in-Err-write.ensures.refused

pub returns-in-Ok-write-clause-moments : goal.returns-in-Ok-write-clause-moments
returns-in-Ok-write-clause-moments g c =
    let old = c.args.self.now in
    let mid = c.settle.new.self in
    let booking = c.args.booking in
    let H = history mid.marks in
    let new = c.write.new.self in
    let entry : Entry = c.in-Ok-default-Some.entry in
    let rec : Record = record { entry = entry; tree = None } in
    let found : IsStartFound mid.bank mid.plan H booking c.in-Ok-default-Some.session (Some entry) = rw c.in-Ok-default-Some.field-0-1-is at c.in-Ok-default-Some.ensures.found in
    λ told. left_writing (FindsStart old.bank old.plan booking) old mid new c.settle.ensures.same c.in-Ok.ensures.sure c.in-Ok.ensures.mended rec.entry (finds_there old mid c.settle.ensures.same (λ (b : Tables) (plan : Plan). FindsStart b plan booking) H (add rec.entry) found.0) (c.settle.ensures.moments told) (c.write.ensures.moments (subst (λ (b : Rattle.std.specs.Prelude.Bool). Rattle.std.specs.Bool.IsTrue b) (sym c.settle.ensures.frame.tells) told))

pub returns-in-Err-write-clause-moments : goal.returns-in-Err-write-clause-moments
returns-in-Err-write-clause-moments g c =
    let old = c.args.self.now in
    let mid = c.settle.new.self in
    let booking = c.args.booking in
    let H = history mid.marks in
    let new = c.write.new.self in
    let entry : Entry = c.in-Ok-default-Some.entry in
    let rec : Record = record { entry = entry; tree = None } in
    let found : IsStartFound mid.bank mid.plan H booking c.in-Ok-default-Some.session (Some entry) = rw c.in-Ok-default-Some.field-0-1-is at c.in-Ok-default-Some.ensures.found in
    λ told. left_writing (FindsStart old.bank old.plan booking) old mid new c.settle.ensures.same c.in-Ok.ensures.sure c.in-Ok.ensures.mended rec.entry (finds_there old mid c.settle.ensures.same (λ (b : Tables) (plan : Plan). FindsStart b plan booking) H (add rec.entry) found.0) (c.settle.ensures.moments told) (c.write.ensures.moments (subst (λ (b : Rattle.std.specs.Prelude.Bool). Rattle.std.specs.Bool.IsTrue b) (sym c.settle.ensures.frame.tells) told))

pub returns-in-Ok-default-None-clause-fresh : goal.returns-in-Ok-default-None-clause-fresh
returns-in-Ok-default-None-clause-fresh g c = c.in-Ok.ensures.mended

pub returns-in-Ok-write-clause-fresh : goal.returns-in-Ok-write-clause-fresh
returns-in-Ok-write-clause-fresh g c =
    let old = c.args.self.now in
    let mid = c.settle.new.self in
    let booking = c.args.booking in
    let H = history mid.marks in
    let entry : Entry = c.in-Ok-default-Some.entry in
    let rec : Record = record { entry = entry; tree = None } in
    let found : IsStartFound mid.bank mid.plan H booking c.in-Ok-default-Some.session (Some entry) = rw c.in-Ok-default-Some.field-0-1-is at c.in-Ok-default-Some.ensures.found in
    (mid.marks, rec.entry, with_record mid.marks rec, c.in-Ok.ensures.mended, c.in-Ok-write.ensures.written, found.0.2)

pub write-requires-clause-may : goal.write-requires-clause-may
write-requires-clause-may g c =
    let mid = c.settle.new.self in
    let booking = c.args.booking in
    let H = history mid.marks in
    let entry : Entry = c.in-Ok-default-Some.entry in
    let found : IsStartFound mid.bank mid.plan H booking c.in-Ok-default-Some.session (Some entry) = rw c.in-Ok-default-Some.field-0-1-is at c.in-Ok-default-Some.ensures.found in
    may_start mid.bank mid.plan H booking entry c.in-Ok-default-Some.session found

-- what a crash leaves once the record is written
pub returns-in-Ok-write-clause-images : goal.returns-in-Ok-write-clause-images
returns-in-Ok-write-clause-images g c = λ told.
    let old = c.args.self.now in
    let mid = c.settle.new.self in
    let new = c.write.new.self in
    subst (λ (p : Plan). AllImages (StandsSecond old.bank p (history new.marks)) (latest (accounts_of new.journal))) c.settle.ensures.same.plan
    (subst (λ (b : Tables). AllImages (StandsSecond b mid.plan (history new.marks)) (latest (accounts_of new.journal))) c.settle.ensures.same.bank
    (c.in-Ok-write.ensures.images (subst (λ (b : Rattle.std.specs.Prelude.Bool). IsTrue b) (sym c.settle.ensures.frame.tells) told)))
