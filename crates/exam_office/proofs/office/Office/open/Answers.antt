use Rattle.std.proofs.Common.{◌≡◌, ◌≤◌, ◌∙◌, ◌++◌, ℕ, Bool, List, length, IsTrue, refl, sym, ap, subst, arith}
use Rattle.answer_journal.specs.Journal.{accounts_of, faults_of, start_of, tells_of, payloads_of}
use Rattle.answer_journal.specs.OpenFault.{IsWalkAnswer, fault_in}
use Rattle.answer_journal.specs.Opening.{AllowsSame, PutsTailAside, tail_gates}
use Rattle.answer_journal.specs.Versions.{contents, counted_in, second}
use Rattle.exam_edge.specs.Faults.{Rose}
use Rattle.exam_edge.specs.Lent.{IsLent}
use Rattle.exam_edge.specs.Images.{Account, AtEachMoment, IsImage, latest}
use Rattle.history_model.specs.declared.entry.Entry.{Entry}
use Rattle.history_model.specs.Legality.{LegalRun}
use Rattle.history_model.proofs.JudgingLaws.{backed_is_legal_run}
use Rattle.exam_office.specs.Files.{IsImageOrStands, Stands, StandsSecond}
use Rattle.exam_office.specs.Moments.{AreOpeningMoments}
use Rattle.exam_office.proofs.MigratingFiles.{while_read}
use Rattle.std.proofs.Common.{Option, Some, None}
use Rattle.answer_journal.specs.Walk.{first_gate, first_payloads}
use Rattle.exam_office.specs.declared.vectors.Vectors.{Vectors}
use Rattle.exam_office.specs.KeptVectors.{AreTakenWith}
use Rattle.exam_office.specs.Running.{handed}
use Rattle.exam_office.proofs.Opened.{history_is, marks_told, kept_open, vectors_open, stands_while_read, stands_while_opened, stands_too, stands_second, second_too, second_while_opened, while_opened, opening_moments, short_so, given_by, open_answer, second_version, aside_on, aside_read}
use Rattle.exam_office.specs.Opening.{journal_fault, IsReadAnswer, IsOpenAnswer}
use Rattle.exam_office.proofs.Allowing.{same_allowed}
use Rattle.exam_office.proofs.Refused.{journal_answer, disk_failed, lent_on, rose_later}
use Rattle.exam_office.proofs.office.Office.open.Goals as goal

-- ---- each moment
pub returns-in-Err-clause-moments_err : goal.returns-in-Err-clause-moments_err
returns-in-Err-clause-moments_err g c = λ told H stands.
    let a0 = g.D.Disk.accounts c.args.disk in
    while_read c.args.bank.now c.args.spec.now H (latest a0) a0 (g.D.Disk.accounts c.in-Err.disk) (c.in-Err.ensures.moments_err told)

pub returns-then-record_version-eq1-clause-moments_err : goal.returns-then-record_version-eq1-clause-moments_err
returns-then-record_version-eq1-clause-moments_err g c = λ told H stands.
    let b = c.args.bank.now in
    let plan = c.args.spec.now in
    let a0 = g.D.Disk.accounts c.args.disk in
    subst (λ (d : g.row.D.Denot). AtEachMoment a0 (g.D.Disk.accounts d) (IsImageOrStands b plan H (latest a0))) (sym c.stop.ensures)
    (while_read b plan H (latest a0) a0 (g.D.Disk.accounts c.in-Ok.walk.disk) (c.in-Ok.ensures.moments told))

pub returns-in-Err-take_all-clause-moments_err : goal.returns-in-Err-take_all-clause-moments_err
returns-in-Err-take_all-clause-moments_err g c = λ told H stands.
    let b = c.args.bank.now in
    let plan = c.args.spec.now in
    let a0 = g.D.Disk.accounts c.args.disk in
    let same = c.take_all.ensures.accounts (c.in-Ok.ensures.frame.tells ∙ told) in
    subst (λ (d : g.row.D.Denot). AtEachMoment a0 (g.D.Disk.accounts d) (IsImageOrStands b plan H (latest a0))) (sym c.stop-in-Err-take_all.ensures)
    (while_read b plan H (latest a0) a0 (g.D.Disk.accounts c.take_all.new.walk.disk)
    (subst (λ (a : List Account). AtEachMoment a0 a (IsImage (latest a0))) (sym same) (c.in-Ok.ensures.moments told)))

pub returns-in-Err-finish-clause-moments_err : goal.returns-in-Err-finish-clause-moments_err
returns-in-Err-finish-clause-moments_err g c = λ told H stands.
    let b = c.args.bank.now in
    let plan = c.args.spec.now in
    let c0 = g.D.Disk.content c.args.disk in
    let w1 = c.take_all.new.walk in
    let a0 = g.D.Disk.accounts c.args.disk in
    let told0 = c.in-Ok.ensures.frame.tells ∙ told in
    let same = c.take_all.ensures.content told0 ∙ c.in-Ok.ensures.untouched told in
    let reading = subst (λ (a : List Account). AtEachMoment a0 a (IsImage (latest a0))) (sym (c.take_all.ensures.accounts told0)) (c.in-Ok.ensures.moments told) in
    while_opened (Stands b plan H) c0 (g.D.Disk.content w1.disk) a0 (g.D.Disk.accounts w1.disk) (g.D.Disk.accounts c.in-Err-finish.disk)
    (λ file. stands_too b plan H c0 file stands) reading same
    (c.in-Err-finish.ensures.moments_err (c.take_all.ensures.frame.tells ∙ told0))

-- the file is no journal
pub returns-in-Err-clause-settled_err : goal.returns-in-Err-clause-settled_err
returns-in-Err-clause-settled_err g c = λ told settled H stands.
    stands_while_read c.args.bank.now c.args.spec.now H (g.D.Disk.content c.args.disk) (g.D.Disk.accounts c.args.disk) (g.D.Disk.accounts c.in-Err.disk) stands (c.in-Err.ensures.settled_err told settled)

pub returns-in-Err-clause-why : goal.returns-in-Err-clause-why
returns-in-Err-clause-why g c = λ told.
    let file = g.D.Disk.content c.args.disk in
    subst (IsOpenAnswer c.args.bank.now c.args.spec.now file) (sym c.journal_fault.ensures)
    (journal_answer c.args.bank.now c.args.spec.now file c.in-Err.fault
    (subst (λ (limit : ℕ). IsWalkAnswer limit file c.in-Err.fault) c.journal.ensures (c.in-Err.ensures.why told)))

pub returns-in-Err-clause-cause : goal.returns-in-Err-clause-cause
returns-in-Err-clause-cause g c = λ is. c.in-Err.ensures.cause (disk_failed c.in-Err.fault (sym c.journal_fault.ensures ∙ is))

pub returns-in-Err-clause-untouched : goal.returns-in-Err-clause-untouched
returns-in-Err-clause-untouched g c = λ other told. c.in-Err.ensures.untouched_err told

pub returns-in-Err-clause-unwritten : goal.returns-in-Err-clause-unwritten
returns-in-Err-clause-unwritten g c = λ other told. c.in-Err.ensures.moments_err told

pub returns-in-Err-clause-aside_kept : goal.returns-in-Err-clause-aside_kept
returns-in-Err-clause-aside_kept g c = λ other told. c.in-Err.ensures.aside_err told

pub returns-in-Err-clause-frame_err : goal.returns-in-Err-clause-frame_err
returns-in-Err-clause-frame_err g c = c.in-Err.ensures.frame_err

pub returns-in-Err-clause-tail_aside_err : goal.returns-in-Err-clause-tail_aside_err
returns-in-Err-clause-tail_aside_err g c = λ told.
    let d0 = c.args.disk in
    let d1 = c.in-Err.disk in
    aside_read (g.D.Disk.content d0) (g.D.Disk.content d1) (g.D.Disk.accounts d0) (g.D.Disk.accounts d1) (g.D.Disk.aside d0) (g.D.Disk.aside d1) (c.in-Err.ensures.untouched_err told) (c.in-Err.ensures.moments_err told) (c.in-Err.ensures.aside_err told)

-- its records are of the first version
pub returns-then-record_version-eq1-clause-settled_err : goal.returns-then-record_version-eq1-clause-settled_err
returns-then-record_version-eq1-clause-settled_err g c = λ told settled H stands.
    let b = c.args.bank.now in
    let plan = c.args.spec.now in
    let a0 = g.D.Disk.accounts c.args.disk in
    subst (λ (d : g.row.D.Denot). AtEachMoment a0 (g.D.Disk.accounts d) (Stands b plan H)) (sym c.stop.ensures)
    (stands_while_read b plan H (g.D.Disk.content c.args.disk) a0 (g.D.Disk.accounts c.in-Ok.walk.disk) stands (c.in-Ok.ensures.settled told settled))

pub returns-then-record_version-eq1-clause-why : goal.returns-then-record_version-eq1-clause-why
returns-then-record_version-eq1-clause-why g c = λ told. record {
  sound = subst (λ (limit : ℕ). fault_in limit (g.D.Disk.content c.args.disk) ≡ None) c.journal.ensures (c.in-Ok.ensures.sound told);
  first = sym (c.in-Ok.ensures.versions told).1 ∙ (sym c.record_version.ensures.version ∙ c.if-record_version-eq1.true);
}

pub returns-then-record_version-eq1-clause-untouched : goal.returns-then-record_version-eq1-clause-untouched
returns-then-record_version-eq1-clause-untouched g c = λ other told.
    subst (λ (d : g.row.D.Denot). g.D.Disk.content d ≡ g.D.Disk.content c.args.disk) (sym c.stop.ensures) (c.in-Ok.ensures.untouched told)

pub returns-then-record_version-eq1-clause-unwritten : goal.returns-then-record_version-eq1-clause-unwritten
returns-then-record_version-eq1-clause-unwritten g c = λ other told.
    let a0 = g.D.Disk.accounts c.args.disk in
    subst (λ (d : g.row.D.Denot). AtEachMoment a0 (g.D.Disk.accounts d) (IsImage (latest a0))) (sym c.stop.ensures) (c.in-Ok.ensures.moments told)

pub returns-then-record_version-eq1-clause-aside_kept : goal.returns-then-record_version-eq1-clause-aside_kept
returns-then-record_version-eq1-clause-aside_kept g c = λ other told.
    subst (λ (d : g.row.D.Denot). g.D.Disk.aside d ≡ g.D.Disk.aside c.args.disk) (sym c.stop.ensures) (c.in-Ok.ensures.aside told)

pub returns-then-record_version-eq1-clause-tail_aside_err : goal.returns-then-record_version-eq1-clause-tail_aside_err
returns-then-record_version-eq1-clause-tail_aside_err g c = λ told.
    let d0 = c.args.disk in
    let d1 = c.in-Ok.walk.disk in
    subst (λ (d : g.row.D.Denot). PutsTailAside (g.D.Disk.content d0) (g.D.Disk.content d) (g.D.Disk.accounts d0) (g.D.Disk.accounts d) (g.D.Disk.aside d0) (g.D.Disk.aside d)) (sym c.stop.ensures)
    (aside_read (g.D.Disk.content d0) (g.D.Disk.content d1) (g.D.Disk.accounts d0) (g.D.Disk.accounts d1) (g.D.Disk.aside d0) (g.D.Disk.aside d1) (c.in-Ok.ensures.untouched told) (c.in-Ok.ensures.moments told) (c.in-Ok.ensures.aside told))

pub returns-then-record_version-eq1-clause-frame_err : goal.returns-then-record_version-eq1-clause-frame_err
returns-then-record_version-eq1-clause-frame_err g c =
    subst (λ (d : g.row.D.Denot). IsLent g.D.Disk.tells g.D.Disk.identity g.D.Disk.faults c.args.disk d) (sym c.stop.ensures) c.in-Ok.ensures.frame

-- a record is refused
pub returns-in-Err-take_all-clause-settled_err : goal.returns-in-Err-take_all-clause-settled_err
returns-in-Err-take_all-clause-settled_err g c = λ told settled H stands.
    let b = c.args.bank.now in
    let plan = c.args.spec.now in
    let w0 = c.in-Ok.walk in
    let w1 = c.take_all.new.walk in
    let a0 = g.D.Disk.accounts c.args.disk in
    let same = c.take_all.ensures.accounts (c.in-Ok.ensures.frame.tells ∙ told) in
    subst (λ (d : g.row.D.Denot). AtEachMoment a0 (g.D.Disk.accounts d) (Stands b plan H)) (sym c.stop-in-Err-take_all.ensures)
    (subst (λ (a : List Account). AtEachMoment a0 a (Stands b plan H)) (sym same)
    (stands_while_read b plan H (g.D.Disk.content c.args.disk) a0 (g.D.Disk.accounts w0.disk) stands (c.in-Ok.ensures.settled told settled)))

pub returns-in-Err-take_all-clause-why : goal.returns-in-Err-take_all-clause-why
returns-in-Err-take_all-clause-why g c = λ told.
    let b = c.args.bank.now in
    let plan = c.args.spec.now in
    let file = g.D.Disk.content c.args.disk in
    let fault = c.in-Err-take_all.fault in
    let second = second_version c.record_version.result c.in-Ok.walk.record_version c.record_version.ensures.version c.record_version.ensures.one_of c.if-record_version-eq1.false in
    open_answer b plan file fault (sym (c.in-Ok.ensures.versions told).1 ∙ second)
    (subst (λ (f : List ℕ). IsReadAnswer b plan f fault) (c.in-Ok.ensures.untouched told)
    (c.in-Err-take_all.ensures.why (c.in-Ok.ensures.frame.tells ∙ told)))

pub returns-in-Err-take_all-clause-cause : goal.returns-in-Err-take_all-clause-cause
returns-in-Err-take_all-clause-cause g c = λ is.
    let w0 = c.in-Ok.walk in
    let w1 = c.take_all.new.walk in
    let count = g.D.Disk.faults in
    subst (λ (d : g.row.D.Denot). Rose (count c.args.disk) (count d)) (sym c.stop-in-Err-take_all.ensures)
    (rose_later (count c.args.disk) (count w0.disk) (count w1.disk) c.in-Ok.ensures.frame.grows (c.in-Err-take_all.ensures.cause is))

pub returns-in-Err-take_all-clause-untouched : goal.returns-in-Err-take_all-clause-untouched
returns-in-Err-take_all-clause-untouched g c = λ other told.
    subst (λ (d : g.row.D.Denot). g.D.Disk.content d ≡ g.D.Disk.content c.args.disk) (sym c.stop-in-Err-take_all.ensures)
    (c.take_all.ensures.content (c.in-Ok.ensures.frame.tells ∙ told) ∙ c.in-Ok.ensures.untouched told)

pub returns-in-Err-take_all-clause-unwritten : goal.returns-in-Err-take_all-clause-unwritten
returns-in-Err-take_all-clause-unwritten g c = λ other told.
    let a0 = g.D.Disk.accounts c.args.disk in
    subst (λ (d : g.row.D.Denot). AtEachMoment a0 (g.D.Disk.accounts d) (IsImage (latest a0))) (sym c.stop-in-Err-take_all.ensures)
    (subst (λ (a : List Account). AtEachMoment a0 a (IsImage (latest a0))) (sym (c.take_all.ensures.accounts (c.in-Ok.ensures.frame.tells ∙ told))) (c.in-Ok.ensures.moments told))

pub returns-in-Err-take_all-clause-aside_kept : goal.returns-in-Err-take_all-clause-aside_kept
returns-in-Err-take_all-clause-aside_kept g c = λ other told.
    subst (λ (d : g.row.D.Denot). g.D.Disk.aside d ≡ g.D.Disk.aside c.args.disk) (sym c.stop-in-Err-take_all.ensures)
    (c.take_all.ensures.aside (c.in-Ok.ensures.frame.tells ∙ told) ∙ c.in-Ok.ensures.aside told)

pub returns-in-Err-take_all-clause-frame_err : goal.returns-in-Err-take_all-clause-frame_err
returns-in-Err-take_all-clause-frame_err g c =
    subst (λ (d : g.row.D.Denot). IsLent g.D.Disk.tells g.D.Disk.identity g.D.Disk.faults c.args.disk d) (sym c.stop-in-Err-take_all.ensures)
    (lent_on g.D.Disk.tells g.D.Disk.identity g.D.Disk.faults c.args.disk c.in-Ok.walk.disk c.take_all.new.walk.disk c.in-Ok.ensures.frame c.take_all.ensures.frame)

pub returns-in-Err-take_all-clause-tail_aside_err : goal.returns-in-Err-take_all-clause-tail_aside_err
returns-in-Err-take_all-clause-tail_aside_err g c = λ told.
    let d0 = c.args.disk in
    let d1 = c.take_all.new.walk.disk in
    let told0 = c.in-Ok.ensures.frame.tells ∙ told in
    let a0 = g.D.Disk.accounts d0 in
    let reading = subst (λ (a : List Account). AtEachMoment a0 a (IsImage (latest a0))) (sym (c.take_all.ensures.accounts told0)) (c.in-Ok.ensures.moments told) in
    subst (λ (d : g.row.D.Denot). PutsTailAside (g.D.Disk.content d0) (g.D.Disk.content d) a0 (g.D.Disk.accounts d) (g.D.Disk.aside d0) (g.D.Disk.aside d)) (sym c.stop-in-Err-take_all.ensures)
    (aside_read (g.D.Disk.content d0) (g.D.Disk.content d1) a0 (g.D.Disk.accounts d1) (g.D.Disk.aside d0) (g.D.Disk.aside d1)
    (c.take_all.ensures.content told0 ∙ c.in-Ok.ensures.untouched told) reading (c.take_all.ensures.aside told0 ∙ c.in-Ok.ensures.aside told))

-- the disk fails
pub returns-in-Err-finish-clause-tail_aside_err : goal.returns-in-Err-finish-clause-tail_aside_err
returns-in-Err-finish-clause-tail_aside_err g c = λ told.
    let d0 = c.args.disk in
    let d1 = c.take_all.new.walk.disk in
    let d2 = c.in-Err-finish.disk in
    let told0 = c.in-Ok.ensures.frame.tells ∙ told in
    let a0 = g.D.Disk.accounts d0 in
    let reading = subst (λ (a : List Account). AtEachMoment a0 a (IsImage (latest a0))) (sym (c.take_all.ensures.accounts told0)) (c.in-Ok.ensures.moments told) in
    aside_on (g.D.Disk.content d0) (g.D.Disk.content d1) (g.D.Disk.content d2) a0 (g.D.Disk.accounts d1) (g.D.Disk.accounts d2) (g.D.Disk.aside d0) (g.D.Disk.aside d1) (g.D.Disk.aside d2)
    (c.take_all.ensures.content told0 ∙ c.in-Ok.ensures.untouched told) reading (c.take_all.ensures.aside told0 ∙ c.in-Ok.ensures.aside told) (c.in-Err-finish.ensures.aside_err (c.take_all.ensures.frame.tells ∙ told0))

pub returns-in-Err-finish-clause-settled_err : goal.returns-in-Err-finish-clause-settled_err
returns-in-Err-finish-clause-settled_err g c = λ told settled H stands.
    let b = c.args.bank.now in
    let plan = c.args.spec.now in
    let w0 = c.in-Ok.walk in
    let w1 = c.take_all.new.walk in
    let told0 = c.in-Ok.ensures.frame.tells ∙ told in
    let same = c.take_all.ensures.content told0 ∙ c.in-Ok.ensures.untouched told in
    let a0 = g.D.Disk.accounts c.args.disk in
    let reading = subst (λ (a : List Account). AtEachMoment a0 a (λ file. file ≡ g.D.Disk.content c.args.disk)) (sym (c.take_all.ensures.accounts told0)) (c.in-Ok.ensures.settled told settled) in
    stands_while_opened b plan H (g.D.Disk.content c.args.disk) (g.D.Disk.content w1.disk) a0 (g.D.Disk.accounts w1.disk) (g.D.Disk.accounts c.in-Err-finish.disk) stands reading same
    (c.in-Err-finish.ensures.settled_err (c.take_all.ensures.frame.tells ∙ told0))

pub returns-in-Err-finish-clause-why : goal.returns-in-Err-finish-clause-why
returns-in-Err-finish-clause-why g c = λ told.
    let told1 = c.take_all.ensures.frame.tells ∙ (c.in-Ok.ensures.frame.tells ∙ told) in
    subst (IsOpenAnswer c.args.bank.now c.args.spec.now (g.D.Disk.content c.args.disk))
    (sym (c.journal_fault-in-Err-finish.ensures ∙ ap journal_fault (c.in-Err-finish.ensures.why told1))) tt

pub returns-in-Err-finish-clause-cause : goal.returns-in-Err-finish-clause-cause
returns-in-Err-finish-clause-cause g c = λ is.
    let count = g.D.Disk.faults in
    let w0 = c.in-Ok.walk in
    let w1 = c.take_all.new.walk in
    let later = c.in-Err-finish.disk in
    rose_later (count c.args.disk) (count w0.disk) (count later) c.in-Ok.ensures.frame.grows
    (rose_later (count w0.disk) (count w1.disk) (count later) c.take_all.ensures.frame.grows
    (c.in-Err-finish.ensures.cause (disk_failed c.in-Err-finish.fault (sym c.journal_fault-in-Err-finish.ensures ∙ is))))

-- a disk that reports its content gives no other fault
pub returns-in-Err-finish-clause-untouched : goal.returns-in-Err-finish-clause-untouched
returns-in-Err-finish-clause-untouched g c = λ other told.
    absurd (other (c.journal_fault-in-Err-finish.ensures ∙ ap journal_fault (c.in-Err-finish.ensures.why (c.take_all.ensures.frame.tells ∙ (c.in-Ok.ensures.frame.tells ∙ told)))))

pub returns-in-Err-finish-clause-unwritten : goal.returns-in-Err-finish-clause-unwritten
returns-in-Err-finish-clause-unwritten g c = λ other told.
    absurd (other (c.journal_fault-in-Err-finish.ensures ∙ ap journal_fault (c.in-Err-finish.ensures.why (c.take_all.ensures.frame.tells ∙ (c.in-Ok.ensures.frame.tells ∙ told)))))

pub returns-in-Err-finish-clause-aside_kept : goal.returns-in-Err-finish-clause-aside_kept
returns-in-Err-finish-clause-aside_kept g c = λ other told.
    absurd (other (c.journal_fault-in-Err-finish.ensures ∙ ap journal_fault (c.in-Err-finish.ensures.why (c.take_all.ensures.frame.tells ∙ (c.in-Ok.ensures.frame.tells ∙ told)))))

pub returns-in-Err-finish-clause-frame_err : goal.returns-in-Err-finish-clause-frame_err
returns-in-Err-finish-clause-frame_err g c =
    let tells = g.D.Disk.tells in
    let name = g.D.Disk.identity in
    let count = g.D.Disk.faults in
    let w0 = c.in-Ok.walk in
    let w1 = c.take_all.new.walk in
    lent_on tells name count c.args.disk w0.disk c.in-Err-finish.disk c.in-Ok.ensures.frame
    (lent_on tells name count w0.disk w1.disk c.in-Err-finish.disk c.take_all.ensures.frame c.in-Err-finish.ensures.frame_err)

pub invariant_of-result : goal.invariant_of-result
invariant_of-result g c =
    let b = c.args.bank.now in
    let plan = c.args.spec.now in
    let w0 = c.in-Ok.walk in
    let w1 = c.take_all.new.walk in
    let j = c.in-Ok-finish.journal in
    let book = c.in-Ok-take_all.found.0 in
    let marks = c.in-Ok-take_all.found.1 in
    let is = c.in-Ok-take_all.ensures.marks in
    let file = g.D.Disk.content w0.disk in
    let was = handed g.D.Disk.content g.D.Disk.accounts g.D.Disk.faults c.of-opened.result.value in
    let tells : tells_of j ≡ g.D.Disk.tells w0.disk = c.in-Ok-finish.ensures.tells ∙ c.take_all.ensures.frame.tells in
    let v = c.in-Some.vectors in
    let first = w0.at in
    let second = second_version c.record_version.result w0.record_version c.record_version.ensures.version c.record_version.ensures.one_of c.if-record_version-eq1.false in
    let taken : AreTakenWith b plan 2 first (tells_of j) file w1.given w1.at book.entries (Some v) =
    subst (λ (o : Option Vectors). AreTakenWith b plan 2 first (tells_of j) file w1.given w1.at book.entries o) c.in-Some.is
    (subst (λ (t : Bool). AreTakenWith b plan 2 first t file w1.given w1.at book.entries c.take_all.new.vectors) (sym tells)
    (subst (λ (k : ℕ). AreTakenWith b plan k first (g.D.Disk.tells w0.disk) file w1.given w1.at book.entries c.take_all.new.vectors) second c.in-Ok-take_all.ensures.taken)) in
    let keeps : IsTrue (tells_of j) → payloads_of j ≡ first_payloads w1.given file = λ told_now.
    let told0 : IsTrue (g.D.Disk.tells w0.disk) = subst IsTrue tells told_now in
    let told1 : IsTrue (g.D.Disk.tells w1.disk) = c.take_all.ensures.frame.tells ∙ told0 in
    given_by file (g.D.Disk.content w1.disk) (payloads_of j) w1.given (c.take_all.ensures.content told0) (c.in-Ok-finish.ensures.keeps told1) (c.in-Ok-take_all.ensures.last told0) in (
      kept_open marks book.entries w1.size is b plan c.args.base was book j file first w1.given w1.at taken.taken c.in-Ok-take_all.ensures.bank c.in-Ok-take_all.ensures.plan refl
          c.in-Ok-finish.ensures.ready (c.in-Ok-finish.ensures.limit ∙ c.take_all.ensures.limit ∙ c.in-Ok.ensures.limit ∙ c.journal.ensures)
          (λ told_now.
          let told0 : IsTrue (g.D.Disk.tells w0.disk) = subst IsTrue tells told_now in
          let told : IsTrue (g.D.Disk.tells c.args.disk) = subst IsTrue c.in-Ok.ensures.frame.tells told0 in
          subst (λ (d : g.row.D.Denot). start_of j ≡ first_gate (g.D.Disk.content d)) (sym c.of-opened.ensures)
          (c.in-Ok-finish.ensures.start (c.take_all.ensures.frame.tells ∙ told0) ∙ ap first_gate (c.take_all.ensures.content told0 ∙ c.in-Ok.ensures.untouched told)))
          c.in-Ok-finish.ensures.length
          keeps
          (subst (λ (d : g.row.D.Denot). g.D.Disk.faults d ≤ faults_of j) (sym c.of-opened.ensures) (omega (arith, c.in-Ok.ensures.frame.grows, c.take_all.ensures.frame.grows, c.in-Ok-finish.ensures.grows)))
          c.requires.base
          (λ told_now.
          let told0 : IsTrue (g.D.Disk.tells w0.disk) = subst IsTrue tells told_now in
          let told : IsTrue (g.D.Disk.tells c.args.disk) = subst IsTrue c.in-Ok.ensures.frame.tells told0 in
          let c0 = g.D.Disk.content c.args.disk in
          let a0 = g.D.Disk.accounts c.args.disk in
          let same = c.take_all.ensures.content told0 ∙ c.in-Ok.ensures.untouched told in
          let here : StandsSecond b plan book.entries c0 = stands_second b plan book.entries c0 (sym (c.in-Ok.ensures.versions told).1 ∙ second) (subst (Stands b plan book.entries) (c.in-Ok.ensures.untouched told) (c.in-Ok-take_all.ensures.stands told0)) in
          subst (λ (d : g.row.D.Denot). AreOpeningMoments b plan book.entries (latest (g.D.Disk.accounts d)) (g.D.Disk.accounts d) (accounts_of j)) (sym c.of-opened.ensures)
          (opening_moments b plan book.entries c0 (g.D.Disk.content w1.disk) a0 (g.D.Disk.accounts w1.disk) (accounts_of j) here
          (subst (λ (a : List Account). AtEachMoment a0 a (IsImage (latest a0))) (sym (c.take_all.ensures.accounts told0)) (c.in-Ok.ensures.moments told)) same
          (c.in-Ok-finish.ensures.moments (c.take_all.ensures.frame.tells ∙ told0)) (c.in-Ok-finish.ensures.images (c.take_all.ensures.frame.tells ∙ told0)))),
      vectors_open marks book.entries w1.size is b plan j file first w1.given w1.at v taken keeps,
      c.requires.allows,
    )

pub returns-clause-marks : goal.returns-clause-marks
returns-clause-marks g c =
    marks_told c.in-Ok-take_all.found.1 c.in-Ok-take_all.found.0.entries c.take_all.new.walk.size c.in-Ok-take_all.ensures.marks

pub returns-clause-stands : goal.returns-clause-stands
returns-clause-stands g c = λ told.
    let b = c.args.bank.now in
    let plan = c.args.spec.now in
    let w0 = c.in-Ok.walk in
    let w1 = c.take_all.new.walk in
    let j = c.in-Ok-finish.journal in
    let book = c.in-Ok-take_all.found.0 in
    let marks = c.in-Ok-take_all.found.1 in
    let is = c.in-Ok-take_all.ensures.marks in
    subst (λ (H : List Entry). Stands b plan H (g.D.Disk.content c.args.disk)) (sym (history_is marks book.entries w1.size is))
    (subst (Stands b plan book.entries) (c.in-Ok.ensures.untouched told) (c.in-Ok-take_all.ensures.stands (c.in-Ok.ensures.frame.tells ∙ told)))

pub returns-clause-images : goal.returns-clause-images
returns-clause-images g c = λ told file i.
    let b = c.args.bank.now in
    let plan = c.args.spec.now in
    let w0 = c.in-Ok.walk in
    let w1 = c.take_all.new.walk in
    let j = c.in-Ok-finish.journal in
    let book = c.in-Ok-take_all.found.0 in
    let marks = c.in-Ok-take_all.found.1 in
    let is = c.in-Ok-take_all.ensures.marks in
    let told0 = c.in-Ok.ensures.frame.tells ∙ told in
    let second = second_version c.record_version.result w0.record_version c.record_version.ensures.version c.record_version.ensures.one_of c.if-record_version-eq1.false in
    let same = c.in-Ok.ensures.untouched told in
    let two : (counted_in (g.D.Disk.content w0.disk)).version ≡ 2 = ap (λ (f : List ℕ). (counted_in f).version) same ∙ (sym (c.in-Ok.ensures.versions told).1 ∙ second) in
    subst (λ (H : List Entry). StandsSecond b plan H file) (sym (history_is marks book.entries w1.size is))
    (second_too b plan book.entries (g.D.Disk.content w0.disk) file (stands_second b plan book.entries (g.D.Disk.content w0.disk) two (c.in-Ok-take_all.ensures.stands told0))
    (c.in-Ok-finish.ensures.images (c.take_all.ensures.frame.tells ∙ told0) file i ∙ ap contents (c.take_all.ensures.content told0)))

pub returns-clause-moments : goal.returns-clause-moments
returns-clause-moments g c = λ told.
    let b = c.args.bank.now in
    let plan = c.args.spec.now in
    let w0 = c.in-Ok.walk in
    let w1 = c.take_all.new.walk in
    let j = c.in-Ok-finish.journal in
    let book = c.in-Ok-take_all.found.0 in
    let marks = c.in-Ok-take_all.found.1 in
    let is = c.in-Ok-take_all.ensures.marks in
    let told0 = c.in-Ok.ensures.frame.tells ∙ told in
    let told1 = c.take_all.ensures.frame.tells ∙ told0 in
    let c0 = g.D.Disk.content c.args.disk in
    let a0 = g.D.Disk.accounts c.args.disk in
    let same = c.take_all.ensures.content told0 ∙ c.in-Ok.ensures.untouched told in
    let reading = subst (λ (a : List Account). AtEachMoment a0 a (IsImage (latest a0))) (sym (c.take_all.ensures.accounts told0)) (c.in-Ok.ensures.moments told) in
    let second = second_version c.record_version.result w0.record_version c.record_version.ensures.version c.record_version.ensures.one_of c.if-record_version-eq1.false in
    let here : StandsSecond b plan book.entries c0 = stands_second b plan book.entries c0 (sym (c.in-Ok.ensures.versions told).1 ∙ second) (subst (Stands b plan book.entries) (c.in-Ok.ensures.untouched told) (c.in-Ok-take_all.ensures.stands told0)) in
    subst (λ (H : List Entry). AreOpeningMoments b plan H (latest a0) a0 (accounts_of j)) (sym (history_is marks book.entries w1.size is))
    (opening_moments b plan book.entries c0 (g.D.Disk.content w1.disk) a0 (g.D.Disk.accounts w1.disk) (accounts_of j) here reading same (c.in-Ok-finish.ensures.moments told1) (c.in-Ok-finish.ensures.images told1))

pub returns-clause-settled : goal.returns-clause-settled
returns-clause-settled g c = λ told settled.
    let b = c.args.bank.now in
    let plan = c.args.spec.now in
    let w0 = c.in-Ok.walk in
    let w1 = c.take_all.new.walk in
    let j = c.in-Ok-finish.journal in
    let book = c.in-Ok-take_all.found.0 in
    let marks = c.in-Ok-take_all.found.1 in
    let is = c.in-Ok-take_all.ensures.marks in
    let told0 = c.in-Ok.ensures.frame.tells ∙ told in
    let c0 = g.D.Disk.content c.args.disk in
    let a0 = g.D.Disk.accounts c.args.disk in
    let same = c.take_all.ensures.content told0 ∙ c.in-Ok.ensures.untouched told in
    let reading = subst (λ (a : List Account). AtEachMoment a0 a (λ file. file ≡ c0)) (sym (c.take_all.ensures.accounts told0)) (c.in-Ok.ensures.settled told settled) in
    let second = second_version c.record_version.result w0.record_version c.record_version.ensures.version c.record_version.ensures.one_of c.if-record_version-eq1.false in
    let here : StandsSecond b plan book.entries c0 = stands_second b plan book.entries c0 (sym (c.in-Ok.ensures.versions told).1 ∙ second) (subst (Stands b plan book.entries) (c.in-Ok.ensures.untouched told) (c.in-Ok-take_all.ensures.stands told0)) in
    subst (λ (H : List Entry). AtEachMoment a0 (accounts_of j) (StandsSecond b plan H)) (sym (history_is marks book.entries w1.size is))
    (second_while_opened b plan book.entries c0 (g.D.Disk.content w1.disk) a0 (g.D.Disk.accounts w1.disk) (accounts_of j) here reading same (c.in-Ok-finish.ensures.settled (c.take_all.ensures.frame.tells ∙ told0)))

pub returns-clause-legal : goal.returns-clause-legal
returns-clause-legal g c =
    let b = c.args.bank.now in
    let plan = c.args.spec.now in
    let w0 = c.in-Ok.walk in
    let w1 = c.take_all.new.walk in
    let j = c.in-Ok-finish.journal in
    let book = c.in-Ok-take_all.found.0 in
    let marks = c.in-Ok-take_all.found.1 in
    let is = c.in-Ok-take_all.ensures.marks in
    let taken = c.in-Ok-take_all.ensures.taken.taken in
    subst (λ (H : List Entry). LegalRun b plan H) (taken.are.entries ∙ sym (history_is marks book.entries w1.size is)) (backed_is_legal_run b plan taken.records taken.are.backed)

-- the file was within the limit
pub returns-clause-short : goal.returns-clause-short
returns-clause-short g c = λ told.
    subst (λ (limit : ℕ). length (g.D.Disk.content c.args.disk) ≤ limit) c.journal.ensures
    (short_so c.journal.result (g.D.Disk.content c.args.disk) (c.in-Ok.ensures.sound told))

pub returns-clause-version : goal.returns-clause-version
returns-clause-version g c = λ told.
    sym (c.in-Ok.ensures.versions told).1 ∙ second_version c.record_version.result c.in-Ok.walk.record_version c.record_version.ensures.version c.record_version.ensures.one_of c.if-record_version-eq1.false

pub returns-clause-tail_aside : goal.returns-clause-tail_aside
returns-clause-tail_aside g c = λ told.
    let d0 = c.args.disk in
    let d1 = c.take_all.new.walk.disk in
    let told0 = c.in-Ok.ensures.frame.tells ∙ told in
    let file : g.D.Disk.content d1 ≡ g.D.Disk.content d0 = c.take_all.ensures.content told0 ∙ c.in-Ok.ensures.untouched told in
    c.in-Ok-finish.ensures.aside (c.take_all.ensures.frame.tells ∙ told0)
    ∙ (ap (λ (x : List ℕ). x ++ tail_gates (g.D.Disk.content d1)) (c.take_all.ensures.aside told0 ∙ c.in-Ok.ensures.aside told)
    ∙ ap (λ (f : List ℕ). g.D.Disk.aside d0 ++ tail_gates f) file)

-- the journal over the file has its payloads
pub returns-clause-payloads : goal.returns-clause-payloads
returns-clause-payloads g c = λ told.
    let told0 = c.in-Ok.ensures.frame.tells ∙ told in
    let told1 = c.take_all.ensures.frame.tells ∙ told0 in
    subst (λ (f : List ℕ). contents f ≡ Some (second (payloads_of c.in-Ok-finish.journal)))
    (c.take_all.ensures.content told0 ∙ c.in-Ok.ensures.untouched told) (c.in-Ok-finish.ensures.keeps told1)

-- what the disk allows
pub finish-requires-clause-comes : goal.finish-requires-clause-comes
finish-requires-clause-comes g c = λ told1.
    let told0 = sym c.take_all.ensures.frame.tells ∙ told1 in
    subst (AllowsSame g.D.Disk.may_become contents) (sym (c.take_all.ensures.content told0))
    (same_allowed c.args.bank.now c.args.spec.now g.D.Disk.may_become c.requires.allows c.in-Ok-take_all.found.0.entries (g.D.Disk.content c.in-Ok.walk.disk) (c.in-Ok-take_all.ensures.stands told0))
