use Rattle.std.proofs.Common.{◌∙◌, ℕ, Err, refl, sym, ap, subst}
use Rattle.command_line.specs.Commands.{Serve}
use Rattle.exam_serve.proofs.Left.{still_lent}
use Rattle.exam_program.specs.declared.halt.Halt.{Halt}
use Rattle.exam_program.specs.Halts.{HaltsAtBase, IsEarly}
use Rattle.exam_program.specs.Outcomes.{IsOver, IsStatusBefore}
use Rattle.exam_program.specs.Outside.{outside, disk_seen}
use Rattle.exam_program.specs.Runs.{idle}
use Rattle.exam_program.proofs.CauseLaws.{ends_as}
use Rattle.exam_program.proofs.OutcomeLaws.{as_it_is, halts_at_exam, halts_at_base}
use Rattle.exam_program.proofs.ServeLaws.{halt_status}
use Rattle.exam_program.proofs.StatusLaws.{at_files, at_sink, at_disk, not_usage, not_door, lent_still}
use Rattle.exam_program.proofs.serving.serve.Goals as goal

pub returns-in-Err : goal.returns-in-Err
returns-in-Err g c =
    record {
      answers = λ told words e.
          let bank = c.args.bank.now in
          let plan = c.args.plan.now in
          let o = outside (g.F.Files.has c.args.files.now) (g.F.Files.content c.args.files.now) (g.F.Files.faults c.args.files.now) (g.F.Files.faults c.exam_in.new.files)
          (disk_seen g.D.Disk.tells g.D.Disk.content g.D.Disk.accounts g.D.Disk.faults c.args.disk c.args.disk) in
          let was = g.O.Sink.written c.args.out.now in
          let over : IsOver words bank plan = record { command = Serve bank plan c.args.ahead; asked = e; names = refl } in
          let untouched = as_it_is g.D.Disk.tells g.D.Disk.content g.D.Disk.accounts g.D.Disk.faults c.args.disk in
          let halts = halts_at_exam words o (g.O.Sink.tells c.args.out.now) was bank plan c.in-Err.halt over
          (λ is. c.exam_in.ensures.failed (c.in-Err.is ∙ ap Err is)) untouched (c.in-Err.ensures.err told) in
          idle refl (c.report-status.ensures.answers words o was halts);
      cause = λ told words e.
          let bank = c.args.bank.now in
          let plan = c.args.plan.now in
          let o = outside (g.F.Files.has c.args.files.now) (g.F.Files.content c.args.files.now) (g.F.Files.faults c.args.files.now) (g.F.Files.faults c.exam_in.new.files)
          (disk_seen g.D.Disk.tells g.D.Disk.content g.D.Disk.accounts g.D.Disk.faults c.args.disk c.args.disk) in
          let was = g.O.Sink.written c.args.out.now in
          let over : IsOver words bank plan = record { command = Serve bank plan c.args.ahead; asked = e; names = refl } in
          let untouched = as_it_is g.D.Disk.tells g.D.Disk.content g.D.Disk.accounts g.D.Disk.faults c.args.disk in
          let halts = halts_at_exam words o (g.O.Sink.tells c.args.out.now) was bank plan c.in-Err.halt over
          (λ is. c.exam_in.ensures.failed (c.in-Err.is ∙ ap Err is)) untouched (c.in-Err.ensures.err told) in
          ends_as words o (g.O.Sink.tells c.args.out.now) was was c.in-Err.halt c.report-status.result halts c.report-status.ensures.status;
      door = λ is. absurd (not_door c.in-Err.halt c.report-status.result c.report-status.ensures.status is);
      files = at_files c.in-Err.halt c.report-status.result c.report-status.ensures.status (λ is. c.exam_in.ensures.failed (c.in-Err.is ∙ ap Err is));
      sink = at_sink c.in-Err.halt c.report-status.result c.report-status.ensures.status (λ is. absurd (subst (λ (h : Halt). IsEarly h) is c.in-Err.ensures.early));
      failed = at_disk c.in-Err.halt c.report-status.result c.report-status.ensures.status (λ is. absurd (subst (λ (h : Halt). IsEarly h) is c.in-Err.ensures.early));
      kept = λ _. refl;
      usage = not_usage c.in-Err.halt c.report-status.result c.report-status.ensures.status;
      status = halt_status c.in-Err.halt c.report-status.result c.report-status.ensures.status;
      files_grow = c.exam_in.ensures.grows;
      sink_grows = c.report-status.ensures.grows;
      files_tell = c.exam_in.ensures.tells;
      sink_tells = c.report-status.ensures.tells;
      disk = lent_still g.D.Disk.tells g.D.Disk.identity g.D.Disk.faults c.args.disk;
      doors = still_lent g.L.Door.tells g.L.Door.is_out g.L.Door.faults g.L.Door.identity c.args.doors.items c.requires.home;
    }

pub returns-in-Err-base_form : goal.returns-in-Err-base_form
returns-in-Err-base_form g c =
    record {
      answers = λ told words e.
          let o = outside (g.F.Files.has c.args.files.now) (g.F.Files.content c.args.files.now) (g.F.Files.faults c.args.files.now) (g.F.Files.faults c.exam_in.new.files)
          (disk_seen g.D.Disk.tells g.D.Disk.content g.D.Disk.accounts g.D.Disk.faults c.args.disk c.args.disk) in
          let was = g.O.Sink.written c.args.out.now in
          let untouched = as_it_is g.D.Disk.tells g.D.Disk.content g.D.Disk.accounts g.D.Disk.faults c.args.disk in
          let halts = halts_at_base words o (g.O.Sink.tells c.args.out.now) was (Serve c.args.bank.now c.args.plan.now c.args.ahead) c.in-Ok.exam.bank c.in-Ok.exam.spec
          c.in-Err-base_form.halt e (c.in-Ok.ensures.ok told) untouched c.in-Err-base_form.ensures.halts in
          idle refl (c.report-status-in-Err-base_form.ensures.answers words o was halts);
      cause = λ told words e.
          let o = outside (g.F.Files.has c.args.files.now) (g.F.Files.content c.args.files.now) (g.F.Files.faults c.args.files.now) (g.F.Files.faults c.exam_in.new.files)
          (disk_seen g.D.Disk.tells g.D.Disk.content g.D.Disk.accounts g.D.Disk.faults c.args.disk c.args.disk) in
          let was = g.O.Sink.written c.args.out.now in
          let untouched = as_it_is g.D.Disk.tells g.D.Disk.content g.D.Disk.accounts g.D.Disk.faults c.args.disk in
          let halts = halts_at_base words o (g.O.Sink.tells c.args.out.now) was (Serve c.args.bank.now c.args.plan.now c.args.ahead) c.in-Ok.exam.bank c.in-Ok.exam.spec
          c.in-Err-base_form.halt e (c.in-Ok.ensures.ok told) untouched c.in-Err-base_form.ensures.halts in
          ends_as words o (g.O.Sink.tells c.args.out.now) was was c.in-Err-base_form.halt c.report-status-in-Err-base_form.result halts c.report-status-in-Err-base_form.ensures.status;
      door = λ is. absurd (not_door c.in-Err-base_form.halt c.report-status-in-Err-base_form.result c.report-status-in-Err-base_form.ensures.status is);
      files = at_files c.in-Err-base_form.halt c.report-status-in-Err-base_form.result c.report-status-in-Err-base_form.ensures.status (λ is. absurd (subst (λ (h : Halt). HaltsAtBase c.in-Ok.exam.bank c.in-Ok.exam.spec h) is c.in-Err-base_form.ensures.halts));
      sink = at_sink c.in-Err-base_form.halt c.report-status-in-Err-base_form.result c.report-status-in-Err-base_form.ensures.status (λ is. absurd (subst (λ (h : Halt). HaltsAtBase c.in-Ok.exam.bank c.in-Ok.exam.spec h) is c.in-Err-base_form.ensures.halts));
      failed = at_disk c.in-Err-base_form.halt c.report-status-in-Err-base_form.result c.report-status-in-Err-base_form.ensures.status (λ is. absurd (subst (λ (h : Halt). HaltsAtBase c.in-Ok.exam.bank c.in-Ok.exam.spec h) is c.in-Err-base_form.ensures.halts));
      kept = λ _. refl;
      usage = not_usage c.in-Err-base_form.halt c.report-status-in-Err-base_form.result c.report-status-in-Err-base_form.ensures.status;
      status = halt_status c.in-Err-base_form.halt c.report-status-in-Err-base_form.result c.report-status-in-Err-base_form.ensures.status;
      files_grow = c.exam_in.ensures.grows;
      sink_grows = c.report-status-in-Err-base_form.ensures.grows;
      files_tell = c.exam_in.ensures.tells;
      sink_tells = c.report-status-in-Err-base_form.ensures.tells;
      disk = lent_still g.D.Disk.tells g.D.Disk.identity g.D.Disk.faults c.args.disk;
      doors = still_lent g.L.Door.tells g.L.Door.is_out g.L.Door.faults g.L.Door.identity c.args.doors.items c.requires.home;
    }

pub returns : goal.returns
returns g c =
    record {
      answers = λ told words e.
          let o = outside (g.F.Files.has c.args.files.now) (g.F.Files.content c.args.files.now) (g.F.Files.faults c.args.files.now) (g.F.Files.faults c.exam_in.new.files)
          (disk_seen g.D.Disk.tells g.D.Disk.content g.D.Disk.accounts g.D.Disk.faults c.args.disk c.serve_over.result.disk) in
          c.serve_over.ensures.answers words o
          (record {
            bank = c.args.bank.now;
            plan = c.args.plan.now;
            ahead = c.args.ahead;
            asked = e;
            reads = c.in-Ok.ensures.ok told;
            is_base = c.in-Ok-base_form.ensures.base;
          }) refl;
      cause = λ told words e.
          let o = outside (g.F.Files.has c.args.files.now) (g.F.Files.content c.args.files.now) (g.F.Files.faults c.args.files.now) (g.F.Files.faults c.exam_in.new.files)
          (disk_seen g.D.Disk.tells g.D.Disk.content g.D.Disk.accounts g.D.Disk.faults c.args.disk c.serve_over.result.disk) in
          c.serve_over.ensures.cause words o
          (record {
            bank = c.args.bank.now;
            plan = c.args.plan.now;
            ahead = c.args.ahead;
            asked = e;
            reads = c.in-Ok.ensures.ok told;
            is_base = c.in-Ok-base_form.ensures.base;
          }) refl;
      door = c.serve_over.ensures.door;
      files = λ is. absurd (c.serve_over.ensures.opened (subst (λ (s : ℕ). IsStatusBefore s) (sym is) refl));
      sink = c.serve_over.ensures.sink;
      failed = c.serve_over.ensures.failed;
      kept = λ before. absurd (c.serve_over.ensures.opened before);
      usage = λ is. c.serve_over.ensures.opened (subst (λ (s : ℕ). IsStatusBefore s) (sym is) refl);
      status = c.serve_over.ensures.status;
      files_grow = c.exam_in.ensures.grows;
      sink_grows = c.serve_over.ensures.grows;
      files_tell = c.exam_in.ensures.tells;
      sink_tells = c.serve_over.ensures.tells;
      disk = c.serve_over.ensures.disk;
      doors = c.serve_over.ensures.doors;
    }

-- what the disk allows
pub serve_over-requires-clause-allows : goal.serve_over-requires-clause-allows
serve_over-requires-clause-allows g c κs within =
    c.requires.allows c.args.bank.now c.args.plan.now c.in-Ok.exam.bank c.in-Ok.exam.spec c.in-Ok.ensures.ok

-- ---- what is asked of the links
pub serve_over-requires-clause-fair : goal.serve_over-requires-clause-fair
serve_over-requires-clause-fair g c κs within = λ office opened b p form first.
    c.requires.fair office opened (λ told. rw (b, p) (c.in-Ok.ensures.ok told)) (rw (b, p, form) c.in-Ok-base_form.ensures.base) first
