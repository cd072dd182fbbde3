use Rattle.std.proofs.Common.{◌≡◌, ◌∙◌, ℕ, List, IsTrue, true, sym, subst}
use Rattle.exam_edge.specs.Faults.{Rose}
use Rattle.exam_lines.specs.Texts.{migrated_text}
use Rattle.exam_office.specs.declared.migrating.MigrateFault.TheVariants.{Disk as FailedDisk}
use Rattle.exam_office.specs.Migrating.{IsMigrateAnswer, IsOfContent}
use Rattle.exam_program.specs.declared.halt.Halt.{Halt}
use Rattle.exam_program.specs.Migrations.{IsMigrationCutOff, IsMigrationDone, IsStillUnmoved}
use Rattle.exam_program.specs.Outcomes.{IsMigrationOf, Outcome, migrated, Prints, Halts}
use Rattle.exam_program.specs.Outside.{Outside, DiskSeen, disk_seen, IsUntouched}
use Rattle.exam_program.specs.Stopping.{IsUnprinted}
use Rattle.exam_program.specs.Writing.{IsWritten}
use Rattle.exam_program.proofs.OutcomeLaws.{halts_moved, halts_unmoved, prints}
use Rattle.exam_program.proofs.ReplayLaws.{keeps_so, unwritten_so}
use Rattle.exam_program.proofs.RequestLaws.{on_ok, if_err}
use Rattle.exam_program.proofs.migrating.migrate_exam.Goals as goal

-- the journal was not moved
pub returns-in-Err-clause-err : goal.returns-in-Err-clause-err
returns-in-Err-clause-err g c = λ words o is same.
    let b = c.args.bank.now in
    let p = c.args.spec.now in
    let fault = c.in-Err.fault in
    let seen = disk_seen g.D.Disk.tells g.D.Disk.content g.D.Disk.accounts g.D.Disk.faults c.args.disk c.in-Err.disk in
    let told_out = g.O.Sink.tells c.args.out.now in
    let was = g.O.Sink.written c.args.out.now in
    let tried = c.in-Err.ensures in
    let image = λ (t : seen.told ≡ true). g.met.D.Disk.is_image c.in-Err.disk (tried.frame_err.tells ∙ t) in
    let keeps = keeps_so g.D.Disk.tells g.D.Disk.content g.D.Disk.accounts g.D.Disk.faults c.args.disk c.in-Err.disk b p image tried.moments_err in
    let cut : IsMigrationCutOff b p seen = record { keeps = keeps; unwritten = tried.unwritten_err } in
    let untouched = λ (e : IsOfContent fault). unwritten_so g.D.Disk.tells g.D.Disk.content g.D.Disk.accounts g.D.Disk.faults c.args.disk c.in-Err.disk (tried.untouched e) (tried.unwritten e) in
    let so = λ (P : DiskSeen → Type 0) (x : P seen). subst P (sym same) x in
    subst (λ (h : Halt). Halts words o told_out was was h) (sym c.halt_of_migration.ensures)
    (halts_unmoved words o told_out was b p fault is tried.open (so (λ d. IsTrue d.told → IsMigrateAnswer b p d.found fault) tried.why)
    (λ e. so (λ d. IsUntouched d) (untouched e)) (so (λ d. fault ≡ FailedDisk → Rose d.before d.after) tried.cause)
    (so (λ d. IsMigrationCutOff b p d) cut) (λ e. so (λ d. IsStillUnmoved d) (tried.kept e)))

-- how many records it wrote, and the length
pub returns-in-Ok-clause-ok : goal.returns-in-Ok-clause-ok
returns-in-Ok-clause-ok g c =
    let b = c.args.bank.now in
    let p = c.args.spec.now in
    let seen = disk_seen g.D.Disk.tells g.D.Disk.content g.D.Disk.accounts g.D.Disk.faults c.args.disk c.in-Ok.disk in
    let told_out = g.O.Sink.tells c.args.out.now in
    let was = g.O.Sink.written c.args.out.now in
    let now = g.O.Sink.written c.put_text-printed.new.out in
    let moved = c.in-Ok.ensures in
    let image = λ (t : seen.told ≡ true). g.met.D.Disk.is_image c.in-Ok.disk (moved.frame.tells ∙ t) in
    let keeps = keeps_so g.D.Disk.tells g.D.Disk.content g.D.Disk.accounts g.D.Disk.faults c.args.disk c.in-Ok.disk b p image moved.moments in
    let done : IsMigrationDone b p seen c.in-Ok.done = record { migrated = moved.migrated; stands = moved.stands; short = moved.limit; images = moved.images; switched = moved.switched; keeps = keeps } in
    let line = migrated_text c.in-Ok.done.records c.in-Ok.done.length in
    let outcome : (words : List (List ℕ)) (o : Outside) → IsMigrationOf words o b p → o.disk ≡ seen → Outcome words o 0 line = λ words o is same.
    migrated b p c.in-Ok.done is (subst (λ (d : DiskSeen). IsMigrationDone b p d c.in-Ok.done) (sym same) done) in
    on_ok (IsWritten told_out was now line)
    ((words : List (List ℕ)) (o : Outside) → IsMigrationOf words o b p → o.disk ≡ seen → Prints words o told_out was now 0) c.put_text-printed.result
    (λ written words o is same. prints words o told_out was now line (outcome words o is same) written)
    (c.put_text-printed.ensures.ok line c.moved_text.ensures)

pub returns-in-Ok-clause-err : goal.returns-in-Ok-clause-err
returns-in-Ok-clause-err g c =
    let b = c.args.bank.now in
    let p = c.args.spec.now in
    let seen = disk_seen g.D.Disk.tells g.D.Disk.content g.D.Disk.accounts g.D.Disk.faults c.args.disk c.in-Ok.disk in
    let told_out = g.O.Sink.tells c.args.out.now in
    let was = g.O.Sink.written c.args.out.now in
    let now = g.O.Sink.written c.put_text-printed.new.out in
    let moved = c.in-Ok.ensures in
    let image = λ (t : seen.told ≡ true). g.met.D.Disk.is_image c.in-Ok.disk (moved.frame.tells ∙ t) in
    let keeps = keeps_so g.D.Disk.tells g.D.Disk.content g.D.Disk.accounts g.D.Disk.faults c.args.disk c.in-Ok.disk b p image moved.moments in
    let done : IsMigrationDone b p seen c.in-Ok.done = record { migrated = moved.migrated; stands = moved.stands; short = moved.limit; images = moved.images; switched = moved.switched; keeps = keeps } in
    let line = migrated_text c.in-Ok.done.records c.in-Ok.done.length in
    if_err (IsUnprinted told_out was now line)
    (λ (h : Halt). (words : List (List ℕ)) (o : Outside) → IsMigrationOf words o b p → o.disk ≡ seen → Halts words o told_out was now h) c.put_text-printed.result
    (λ h unprinted words o is same.
    halts_moved words o told_out was now b p c.in-Ok.done h is (subst (λ (d : DiskSeen). IsMigrationDone b p d c.in-Ok.done) (sym same) done) unprinted)
    (c.put_text-printed.ensures.err line c.moved_text.ensures)
