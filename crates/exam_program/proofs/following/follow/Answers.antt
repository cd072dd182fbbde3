use Rattle.std.proofs.Common.{◌∙◌, ℕ, Err, inl, refl, sym, ap, subst}
use Rattle.command_line.specs.Commands.{Follow}
use Rattle.exam_serve.proofs.Left.{still_lent}
use Rattle.exam_program.specs.declared.halt.Halt.{Halt}
use Rattle.exam_program.specs.Halts.{IsEarly}
use Rattle.exam_program.specs.Outcomes.{IsStatusBefore}
use Rattle.exam_program.specs.Outside.{outside, disk_seen}
use Rattle.exam_program.proofs.CauseLaws.{ends_as}
use Rattle.exam_program.proofs.OutcomeLaws.{as_it_is}
use Rattle.exam_program.proofs.ServeLaws.{halt_status}
use Rattle.exam_program.proofs.StatusLaws.{at_files, at_sink, at_disk, not_usage, not_door, not_link, lent_still}
use Rattle.exam_program.proofs.following.follow.Goals as goal

pub returns-in-Err : goal.returns-in-Err
returns-in-Err g c =
    record {
      answers = λ told words e.
          let o = outside (g.F.Files.has c.args.files.now) (g.F.Files.content c.args.files.now) (g.F.Files.faults c.args.files.now) (g.F.Files.faults c.ready_in.new.files)
          (disk_seen g.D.Disk.tells g.D.Disk.content g.D.Disk.accounts g.D.Disk.faults c.args.disk c.args.disk) in
          let was = g.O.Sink.written c.args.out.now in
          let untouched = as_it_is g.D.Disk.tells g.D.Disk.content g.D.Disk.accounts g.D.Disk.faults c.args.disk in
          inl (
            refl,
            c.report-status.ensures.answers words o was
                (c.in-Err.ensures.err told words (Follow c.args.bank.now c.args.plan.now) (disk_seen g.D.Disk.tells g.D.Disk.content g.D.Disk.accounts g.D.Disk.faults c.args.disk c.args.disk)
                (g.O.Sink.tells c.args.out.now) was e tt refl untouched),
          );
      cause = λ told words e.
          let o = outside (g.F.Files.has c.args.files.now) (g.F.Files.content c.args.files.now) (g.F.Files.faults c.args.files.now) (g.F.Files.faults c.ready_in.new.files)
          (disk_seen g.D.Disk.tells g.D.Disk.content g.D.Disk.accounts g.D.Disk.faults c.args.disk c.args.disk) in
          let was = g.O.Sink.written c.args.out.now in
          let untouched = as_it_is g.D.Disk.tells g.D.Disk.content g.D.Disk.accounts g.D.Disk.faults c.args.disk in
          ends_as words o (g.O.Sink.tells c.args.out.now) was was c.in-Err.halt c.report-status.result
          (c.in-Err.ensures.err told words (Follow c.args.bank.now c.args.plan.now) (disk_seen g.D.Disk.tells g.D.Disk.content g.D.Disk.accounts g.D.Disk.faults c.args.disk c.args.disk)
          (g.O.Sink.tells c.args.out.now) was e tt refl untouched)
          c.report-status.ensures.status;
      door = λ is. absurd (not_door c.in-Err.halt c.report-status.result c.report-status.ensures.status is);
      link = λ is. absurd (not_link c.in-Err.halt c.report-status.result c.report-status.ensures.status is);
      files = at_files c.in-Err.halt c.report-status.result c.report-status.ensures.status (λ is. c.ready_in.ensures.failed (c.in-Err.is ∙ ap Err is));
      sink = at_sink c.in-Err.halt c.report-status.result c.report-status.ensures.status (λ is. absurd (subst (λ (h : Halt). IsEarly h) is c.in-Err.ensures.early));
      failed = at_disk c.in-Err.halt c.report-status.result c.report-status.ensures.status (λ is. absurd (subst (λ (h : Halt). IsEarly h) is c.in-Err.ensures.early));
      kept = λ _. refl;
      usage = not_usage c.in-Err.halt c.report-status.result c.report-status.ensures.status;
      status = inl (halt_status c.in-Err.halt c.report-status.result c.report-status.ensures.status);
      files_grow = c.ready_in.ensures.grows;
      sink_grows = c.report-status.ensures.grows;
      files_tell = c.ready_in.ensures.tells;
      sink_tells = c.report-status.ensures.tells;
      disk = lent_still g.D.Disk.tells g.D.Disk.identity g.D.Disk.faults c.args.disk;
      doors = still_lent g.L.Door.tells g.L.Door.is_out g.L.Door.faults g.L.Door.identity c.args.doors.items c.requires.home;
    }

pub returns : goal.returns
returns g c =
    record {
      answers = λ told words e.
          let o = outside (g.F.Files.has c.args.files.now) (g.F.Files.content c.args.files.now) (g.F.Files.faults c.args.files.now) (g.F.Files.faults c.ready_in.new.files)
          (disk_seen g.D.Disk.tells g.D.Disk.content g.D.Disk.accounts g.D.Disk.faults c.args.disk c.follow_over.result.disk) in
          c.follow_over.ensures.answers words o
          (record {
            bank = c.args.bank.now;
            plan = c.args.plan.now;
            asked = e;
            reads = c.in-Ok.ensures.ok told;
            is_base = c.in-Ok.ensures.base;
          }) refl;
      cause = λ told words e.
          let o = outside (g.F.Files.has c.args.files.now) (g.F.Files.content c.args.files.now) (g.F.Files.faults c.args.files.now) (g.F.Files.faults c.ready_in.new.files)
          (disk_seen g.D.Disk.tells g.D.Disk.content g.D.Disk.accounts g.D.Disk.faults c.args.disk c.follow_over.result.disk) in
          c.follow_over.ensures.cause words o
          (record {
            bank = c.args.bank.now;
            plan = c.args.plan.now;
            asked = e;
            reads = c.in-Ok.ensures.ok told;
            is_base = c.in-Ok.ensures.base;
          }) refl;
      door = c.follow_over.ensures.door;
      link = c.follow_over.ensures.link;
      files = λ is. absurd (c.follow_over.ensures.opened (subst (λ (s : ℕ). IsStatusBefore s) (sym is) refl));
      sink = c.follow_over.ensures.sink;
      failed = c.follow_over.ensures.failed;
      kept = λ before. absurd (c.follow_over.ensures.opened before);
      usage = λ is. c.follow_over.ensures.opened (subst (λ (s : ℕ). IsStatusBefore s) (sym is) refl);
      status = c.follow_over.ensures.status;
      files_grow = c.ready_in.ensures.grows;
      sink_grows = c.follow_over.ensures.grows;
      files_tell = c.ready_in.ensures.tells;
      sink_tells = c.follow_over.ensures.tells;
      disk = c.follow_over.ensures.disk;
      doors = c.follow_over.ensures.doors;
    }

-- what the disk allows
pub follow_over-requires-clause-allows : goal.follow_over-requires-clause-allows
follow_over-requires-clause-allows g c κs within =
    c.requires.allows c.args.bank.now c.args.plan.now c.in-Ok.ready.exam.bank c.in-Ok.ready.exam.spec c.in-Ok.ensures.ok
