use Rattle.std.proofs.Common.{Vec, Global, ◌≡◌, ℕ, List, IsTrue, sym, subst}
use Rattle.std.specs.Prelude.{IfSome}
use Rattle.std.proofs.lemmas.Result.{IfOk-at_ok, IfErr-at_err}
use Rattle.exam_edge.specs.Faults.{Rose}
use Rattle.exam_office.specs.declared.fault.OpenFault.{OpenFault}
use Rattle.exam_office.specs.declared.fault.OpenFault.TheVariants.{Disk as FailedDisk}
use Rattle.exam_office.specs.Opening.{IsReadAnswer}
use Rattle.history_model.specs.declared.request.Exposure.{Exposure}
use Rattle.history_model.specs.declared.summary.Summary.{Summary}
use Rattle.journal_audit.specs.Audit.{IsAudit}
use Rattle.exam_program.specs.declared.halt.Halt.{Halt}
use Rattle.exam_program.specs.Outcomes.{IsAuditOf, Outcome, audited, Prints, Halts}
use Rattle.exam_program.specs.Outside.{Outside, DiskSeen, disk_seen, IsUntouched}
use Rattle.exam_program.specs.Stopping.{IsUnprinted}
use Rattle.exam_program.specs.Texts.{audit_text}
use Rattle.exam_program.specs.Writing.{IsWritten}
use Rattle.exam_program.proofs.OutcomeLaws.{halts_unprinted, halts_audited, prints}
use Rattle.exam_program.proofs.ReplayLaws.{unwritten_so}
use Rattle.exam_program.proofs.RequestLaws.{on_ok, if_err}
use Rattle.exam_program.proofs.auditing.audit_exam.Goals as goal

-- the journal was not read, or is refused
pub returns-in-Err-clause-err : goal.returns-in-Err-clause-err
returns-in-Err-clause-err g c = λ words o is same.
    let b = c.args.bank.now in
    let p = c.args.spec.now in
    let seen = disk_seen g.D.Disk.tells g.D.Disk.content g.D.Disk.accounts g.D.Disk.faults c.args.disk c.audit_disk-disk.result.0 in
    let told_out = g.O.Sink.tells c.args.out.now in
    let was = g.O.Sink.written c.args.out.now in
    let audit = c.audit_disk-disk.ensures in
    let untouched = unwritten_so g.D.Disk.tells g.D.Disk.content g.D.Disk.accounts g.D.Disk.faults c.args.disk c.audit_disk-disk.result.0 audit.untouched audit.moments in
    let so = λ (P : DiskSeen → Type 0) (x : P seen). subst P (sym same) x in
    subst (λ (h : Halt). Halts words o told_out was was h) (sym c.halt_of_opening.ensures)
    (halts_audited words o told_out was b p c.in-Err.fault is (so (λ d. IsUntouched d) untouched)
    (so (λ d. IsTrue d.told → IsReadAnswer b p d.found c.in-Err.fault) (IfErr-at_err (λ (f : OpenFault). IsTrue seen.told → IsReadAnswer b p seen.found f) c.in-Err.is audit.why))
    (so (λ d. c.in-Err.fault ≡ FailedDisk → Rose d.before d.after) (IfErr-at_err (λ (f : OpenFault). f ≡ FailedDisk → Rose seen.before seen.after) c.in-Err.is audit.cause)))

-- its numbers and its counts
pub returns-in-Ok-clause-ok : goal.returns-in-Ok-clause-ok
returns-in-Ok-clause-ok g c =
    let b = c.args.bank.now in
    let p = c.args.spec.now in
    let seen = disk_seen g.D.Disk.tells g.D.Disk.content g.D.Disk.accounts g.D.Disk.faults c.args.disk c.audit_disk-disk.result.0 in
    let told_out = g.O.Sink.tells c.args.out.now in
    let was = g.O.Sink.written c.args.out.now in
    let now = g.O.Sink.written c.put_text-done.new.out in
    let audit = c.audit_disk-disk.ensures in
    let untouched = unwritten_so g.D.Disk.tells g.D.Disk.content g.D.Disk.accounts g.D.Disk.faults c.args.disk c.audit_disk-disk.result.0 audit.untouched audit.moments in
    let so = λ (P : DiskSeen → Type 0) (o : Outside) (same : o.disk ≡ seen) (x : P seen). subst P (sym same) x in
    let bands = c.in-Ok.bands.items in
    let line = audit_text p c.in-Ok.total c.in-Ok.exposure bands in
    let said = subst (λ (q : List Exposure). IfSome c.audit_text.result (λ t. t.items ≡ audit_text p c.in-Ok.total c.in-Ok.exposure q)) c.deref.ensures.value c.audit_text.ensures in
    let found = IfOk-at_ok (λ (f : Summary × Exposure × Vec Exposure Global). IsTrue seen.told → IsAudit b p seen.found f.0 f.1 f.2.items) c.in-Ok.is audit.found in
    let outcome : (words : List (List ℕ)) (o : Outside) → IsAuditOf words o b p → o.disk ≡ seen → Outcome words o 0 line = λ words o is same.
    audited b p c.in-Ok.total c.in-Ok.exposure bands is (so (λ d. IsTrue d.told → IsAudit b p d.found c.in-Ok.total c.in-Ok.exposure bands) o same found) (so (λ d. IsUntouched d) o same untouched) in
    on_ok (IsWritten told_out was now line)
    ((words : List (List ℕ)) (o : Outside) → IsAuditOf words o b p → o.disk ≡ seen → Prints words o told_out was now 0) c.put_text-done.result
    (λ written words o is same. prints words o told_out was now line (outcome words o is same) written)
    (c.put_text-done.ensures.ok line said)

pub returns-in-Ok-clause-err : goal.returns-in-Ok-clause-err
returns-in-Ok-clause-err g c =
    let b = c.args.bank.now in
    let p = c.args.spec.now in
    let seen = disk_seen g.D.Disk.tells g.D.Disk.content g.D.Disk.accounts g.D.Disk.faults c.args.disk c.audit_disk-disk.result.0 in
    let told_out = g.O.Sink.tells c.args.out.now in
    let was = g.O.Sink.written c.args.out.now in
    let now = g.O.Sink.written c.put_text-done.new.out in
    let audit = c.audit_disk-disk.ensures in
    let untouched = unwritten_so g.D.Disk.tells g.D.Disk.content g.D.Disk.accounts g.D.Disk.faults c.args.disk c.audit_disk-disk.result.0 audit.untouched audit.moments in
    let so = λ (P : DiskSeen → Type 0) (o : Outside) (same : o.disk ≡ seen) (x : P seen). subst P (sym same) x in
    let bands = c.in-Ok.bands.items in
    let line = audit_text p c.in-Ok.total c.in-Ok.exposure bands in
    let said = subst (λ (q : List Exposure). IfSome c.audit_text.result (λ t. t.items ≡ audit_text p c.in-Ok.total c.in-Ok.exposure q)) c.deref.ensures.value c.audit_text.ensures in
    let found = IfOk-at_ok (λ (f : Summary × Exposure × Vec Exposure Global). IsTrue seen.told → IsAudit b p seen.found f.0 f.1 f.2.items) c.in-Ok.is audit.found in
    let outcome : (words : List (List ℕ)) (o : Outside) → IsAuditOf words o b p → o.disk ≡ seen → Outcome words o 0 line = λ words o is same.
    audited b p c.in-Ok.total c.in-Ok.exposure bands is (so (λ d. IsTrue d.told → IsAudit b p d.found c.in-Ok.total c.in-Ok.exposure bands) o same found) (so (λ d. IsUntouched d) o same untouched) in
    if_err (IsUnprinted told_out was now line)
    (λ (h : Halt). (words : List (List ℕ)) (o : Outside) → IsAuditOf words o b p → o.disk ≡ seen → Halts words o told_out was now h) c.put_text-done.result
    (λ h unprinted words o is same. halts_unprinted words o told_out was now line h (outcome words o is same) (so (λ d. IsUntouched d) o same untouched) unprinted)
    (c.put_text-done.ensures.err line said)
