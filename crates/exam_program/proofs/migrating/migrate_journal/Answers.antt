use Rattle.std.proofs.Common.{◌≡◌, ℕ, List, IsTrue, Some, Err, refl, ◌∙◌, ap}
use Rattle.command_line.specs.Commands.{Migrate, command_of}
use Rattle.exam_program.specs.declared.halt.Halt.{Halt}
use Rattle.exam_program.specs.Outcomes.{IsMigrationOf, Prints, Halts}
use Rattle.exam_program.specs.Outside.{Outside, outside, disk_seen}
use Rattle.exam_program.proofs.OutcomeLaws.{as_it_is, halts_at_exam}
use Rattle.exam_program.proofs.RequestLaws.{on_ok, if_err}
use Rattle.exam_program.proofs.migrating.migrate_journal.Goals as goal

pub returns-in-Err-clause-err : goal.returns-in-Err-clause-err
returns-in-Err-clause-err g c = λ told words e.
    let o = outside (g.F.Files.has c.args.files.now) (g.F.Files.content c.args.files.now) (g.F.Files.faults c.args.files.now) (g.F.Files.faults c.exam_in.new.files) (disk_seen g.D.Disk.tells g.D.Disk.content g.D.Disk.accounts g.D.Disk.faults c.args.disk c.args.disk) in
    let told_out = g.O.Sink.tells c.args.out.now in
    let was = g.O.Sink.written c.args.out.now in
    halts_at_exam words o told_out was c.args.bank.now c.args.plan.now c.in-Err.halt (record { command = Migrate c.args.bank.now c.args.plan.now; asked = e; names = refl }) (λ is. c.exam_in.ensures.failed (c.in-Err.is ∙ ap Err is)) (as_it_is g.D.Disk.tells g.D.Disk.content g.D.Disk.accounts g.D.Disk.faults c.args.disk) (c.in-Err.ensures.err told)

pub returns-clause-ok : goal.returns-clause-ok
returns-clause-ok g c =
    let bank = c.args.bank.now in
    let plan = c.args.plan.now in
    let b = c.in-Ok.exam.bank in
    let p = c.in-Ok.exam.spec in
    let seen = disk_seen g.D.Disk.tells g.D.Disk.content g.D.Disk.accounts g.D.Disk.faults c.args.disk c.migrate_exam.result.0 in
    let o = outside (g.F.Files.has c.args.files.now) (g.F.Files.content c.args.files.now) (g.F.Files.faults c.args.files.now) (g.F.Files.faults c.exam_in.new.files) seen in
    let told_out = g.O.Sink.tells c.args.out.now in
    let was = g.O.Sink.written c.args.out.now in
    let now = g.O.Sink.written c.migrate_exam.new.out in
    on_ok ((words : List (List ℕ)) (x : Outside) → IsMigrationOf words x b p → x.disk ≡ seen → Prints words x told_out was now 0)
    (IsTrue (g.F.Files.tells c.args.files.now) → (words : List (List ℕ)) → command_of words ≡ Some (Migrate bank plan) → Prints words o told_out was now 0)
    c.migrate_exam.result.1
    (λ printed told words e. printed words o (record { bank = bank; plan = plan; asked = e; reads = c.in-Ok.ensures.ok told }) refl)
    c.migrate_exam.ensures.ok

pub returns-clause-err : goal.returns-clause-err
returns-clause-err g c =
    let bank = c.args.bank.now in
    let plan = c.args.plan.now in
    let b = c.in-Ok.exam.bank in
    let p = c.in-Ok.exam.spec in
    let seen = disk_seen g.D.Disk.tells g.D.Disk.content g.D.Disk.accounts g.D.Disk.faults c.args.disk c.migrate_exam.result.0 in
    let o = outside (g.F.Files.has c.args.files.now) (g.F.Files.content c.args.files.now) (g.F.Files.faults c.args.files.now) (g.F.Files.faults c.exam_in.new.files) seen in
    let told_out = g.O.Sink.tells c.args.out.now in
    let was = g.O.Sink.written c.args.out.now in
    let now = g.O.Sink.written c.migrate_exam.new.out in
    if_err (λ (h : Halt). (words : List (List ℕ)) (x : Outside) → IsMigrationOf words x b p → x.disk ≡ seen → Halts words x told_out was now h)
    (λ (h : Halt). IsTrue (g.F.Files.tells c.args.files.now) → (words : List (List ℕ)) → command_of words ≡ Some (Migrate bank plan) → Halts words o told_out was now h)
    c.migrate_exam.result.1
    (λ h halts told words e. halts words o (record { bank = bank; plan = plan; asked = e; reads = c.in-Ok.ensures.ok told }) refl)
    c.migrate_exam.ensures.err

-- what the disk allows
pub migrate_exam-requires-clause-allows : goal.migrate_exam-requires-clause-allows
migrate_exam-requires-clause-allows g c =
    c.requires.allows c.args.bank.now c.args.plan.now c.in-Ok.exam.bank c.in-Ok.exam.spec c.in-Ok.ensures.ok
