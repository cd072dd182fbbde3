use Rattle.std.proofs.Common.{◌≡◌, ℕ, List, IsTrue, Some, refl}
use Rattle.command_line.specs.Commands.{Check, Assemble, Series, command_of}
use Rattle.exam_program.specs.declared.halt.Halt.{Halt}
use Rattle.exam_program.specs.declared.halt.Halt.TheVariants.{Disk}
use Rattle.exam_program.specs.Halts.{IsOfNoDisk}
use Rattle.exam_program.specs.Outcomes.{Prints, Halts}
use Rattle.exam_program.specs.Outside.{DiskSeen, outside, disk_seen, IsUntouched}
use Rattle.exam_program.proofs.OutcomeLaws.{as_it_is}
use Rattle.exam_program.proofs.ReplayLaws.{at_err}
use Rattle.exam_program.proofs.RequestLaws.{on_ok, if_err}
use Rattle.exam_program.proofs.StatusLaws.{lent_still}
use Rattle.exam_program.proofs.program.work.Goals as goal

pub returns-in-Check : goal.returns-in-Check
returns-in-Check g c =
    record {
      ok = let o = λ (disk : DiskSeen). outside (g.F.Files.has c.args.files.now) (g.F.Files.content c.args.files.now) (g.F.Files.faults c.args.files.now) (g.F.Files.faults c.check-done.new.files) disk in
          let seen = disk_seen g.D.Disk.tells g.D.Disk.content g.D.Disk.accounts g.D.Disk.faults c.args.disk c.args.disk in
          let untouched = as_it_is g.D.Disk.tells g.D.Disk.content g.D.Disk.accounts g.D.Disk.faults c.args.disk in
          let told_out = g.O.Sink.tells c.args.out.now in
          let was = g.O.Sink.written c.args.out.now in
          let now = g.O.Sink.written c.check-done.new.out in
          rw c.in-Check.is
          (on_ok (IsTrue (g.F.Files.tells c.args.files.now) → (words : List (List ℕ)) (disk : DiskSeen) → command_of words ≡ Some (Check c.in-Check.bank.now c.in-Check.plan.now) → IsUntouched disk → Prints words (o disk) told_out was now 0)
          (IsTrue (g.F.Files.tells c.args.files.now) → (words : List (List ℕ)) → command_of words ≡ Some (Check c.in-Check.bank.now c.in-Check.plan.now) → Prints words (o seen) told_out was now 0)
          c.check-done.result (λ printed told words e. printed told words seen e untouched) c.check-done.ensures.ok);
      err = let o = λ (disk : DiskSeen). outside (g.F.Files.has c.args.files.now) (g.F.Files.content c.args.files.now) (g.F.Files.faults c.args.files.now) (g.F.Files.faults c.check-done.new.files) disk in
          let seen = disk_seen g.D.Disk.tells g.D.Disk.content g.D.Disk.accounts g.D.Disk.faults c.args.disk c.args.disk in
          let untouched = as_it_is g.D.Disk.tells g.D.Disk.content g.D.Disk.accounts g.D.Disk.faults c.args.disk in
          let told_out = g.O.Sink.tells c.args.out.now in
          let was = g.O.Sink.written c.args.out.now in
          let now = g.O.Sink.written c.check-done.new.out in
          rw c.in-Check.is
          (if_err (λ (h : Halt). IsTrue (g.F.Files.tells c.args.files.now) → (words : List (List ℕ)) (disk : DiskSeen) → command_of words ≡ Some (Check c.in-Check.bank.now c.in-Check.plan.now) → IsUntouched disk → Halts words (o disk) told_out was now h)
          (λ (h : Halt). IsTrue (g.F.Files.tells c.args.files.now) → (words : List (List ℕ)) → command_of words ≡ Some (Check c.in-Check.bank.now c.in-Check.plan.now) → Halts words (o seen) told_out was now h)
          c.check-done.result (λ h halts told words e. halts told words seen e untouched) c.check-done.ensures.err);
      files = c.check-done.ensures.files;
      sink = c.check-done.ensures.sink;
      failed = λ is. absurd (at_err IsOfNoDisk c.check-done.result Disk is c.check-done.ensures.alone);
      kept = if_err IsOfNoDisk _ c.check-done.result (λ h alone before. refl) c.check-done.ensures.alone;
      unused = λ _. refl;
      files_grow = c.check-done.ensures.files_grow;
      sink_grows = c.check-done.ensures.sink_grows;
      files_tell = c.check-done.ensures.files_tell;
      sink_tells = c.check-done.ensures.sink_tells;
      disk = lent_still g.D.Disk.tells g.D.Disk.identity g.D.Disk.faults c.args.disk;
    }

pub returns-in-Assemble : goal.returns-in-Assemble
returns-in-Assemble g c =
    record {
      ok = let o = λ (disk : DiskSeen). outside (g.F.Files.has c.args.files.now) (g.F.Files.content c.args.files.now) (g.F.Files.faults c.args.files.now) (g.F.Files.faults c.assemble-done.new.files) disk in
          let seen = disk_seen g.D.Disk.tells g.D.Disk.content g.D.Disk.accounts g.D.Disk.faults c.args.disk c.args.disk in
          let untouched = as_it_is g.D.Disk.tells g.D.Disk.content g.D.Disk.accounts g.D.Disk.faults c.args.disk in
          let told_out = g.O.Sink.tells c.args.out.now in
          let was = g.O.Sink.written c.args.out.now in
          let now = g.O.Sink.written c.assemble-done.new.out in
          rw c.in-Assemble.is
          (on_ok (IsTrue (g.F.Files.tells c.args.files.now) → (words : List (List ℕ)) (disk : DiskSeen) → command_of words ≡ Some (Assemble c.in-Assemble.bank.now c.in-Assemble.plan.now) → IsUntouched disk → Prints words (o disk) told_out was now 0)
          (IsTrue (g.F.Files.tells c.args.files.now) → (words : List (List ℕ)) → command_of words ≡ Some (Assemble c.in-Assemble.bank.now c.in-Assemble.plan.now) → Prints words (o seen) told_out was now 0)
          c.assemble-done.result (λ printed told words e. printed told words seen e untouched) c.assemble-done.ensures.ok);
      err = let o = λ (disk : DiskSeen). outside (g.F.Files.has c.args.files.now) (g.F.Files.content c.args.files.now) (g.F.Files.faults c.args.files.now) (g.F.Files.faults c.assemble-done.new.files) disk in
          let seen = disk_seen g.D.Disk.tells g.D.Disk.content g.D.Disk.accounts g.D.Disk.faults c.args.disk c.args.disk in
          let untouched = as_it_is g.D.Disk.tells g.D.Disk.content g.D.Disk.accounts g.D.Disk.faults c.args.disk in
          let told_out = g.O.Sink.tells c.args.out.now in
          let was = g.O.Sink.written c.args.out.now in
          let now = g.O.Sink.written c.assemble-done.new.out in
          rw c.in-Assemble.is
          (if_err (λ (h : Halt). IsTrue (g.F.Files.tells c.args.files.now) → (words : List (List ℕ)) (disk : DiskSeen) → command_of words ≡ Some (Assemble c.in-Assemble.bank.now c.in-Assemble.plan.now) → IsUntouched disk → Halts words (o disk) told_out was now h)
          (λ (h : Halt). IsTrue (g.F.Files.tells c.args.files.now) → (words : List (List ℕ)) → command_of words ≡ Some (Assemble c.in-Assemble.bank.now c.in-Assemble.plan.now) → Halts words (o seen) told_out was now h)
          c.assemble-done.result (λ h halts told words e. halts told words seen e untouched) c.assemble-done.ensures.err);
      files = c.assemble-done.ensures.files;
      sink = c.assemble-done.ensures.sink;
      failed = λ is. absurd (at_err IsOfNoDisk c.assemble-done.result Disk is c.assemble-done.ensures.alone);
      kept = if_err IsOfNoDisk _ c.assemble-done.result (λ h alone before. refl) c.assemble-done.ensures.alone;
      unused = λ _. refl;
      files_grow = c.assemble-done.ensures.files_grow;
      sink_grows = c.assemble-done.ensures.sink_grows;
      files_tell = c.assemble-done.ensures.files_tell;
      sink_tells = c.assemble-done.ensures.sink_tells;
      disk = lent_still g.D.Disk.tells g.D.Disk.identity g.D.Disk.faults c.args.disk;
    }

pub returns-in-Replay : goal.returns-in-Replay
returns-in-Replay g c =
    record {
      ok = rw c.in-Replay.is c.replay_script.ensures.ok;
      err = rw c.in-Replay.is c.replay_script.ensures.err;
      files = c.replay_script.ensures.files;
      sink = c.replay_script.ensures.sink;
      failed = c.replay_script.ensures.failed;
      kept = c.replay_script.ensures.kept;
      unused = rw c.in-Replay.is (λ no. absurd (no tt));
      files_grow = c.replay_script.ensures.files_grow;
      sink_grows = c.replay_script.ensures.sink_grows;
      files_tell = c.replay_script.ensures.files_tell;
      sink_tells = c.replay_script.ensures.sink_tells;
      disk = c.replay_script.ensures.disk;
    }

pub returns-in-Audit : goal.returns-in-Audit
returns-in-Audit g c =
    record {
      ok = rw c.in-Audit.is c.audit_journal.ensures.ok;
      err = rw c.in-Audit.is c.audit_journal.ensures.err;
      files = c.audit_journal.ensures.files;
      sink = c.audit_journal.ensures.sink;
      failed = c.audit_journal.ensures.failed;
      kept = c.audit_journal.ensures.kept;
      unused = rw c.in-Audit.is (λ no. absurd (no tt));
      files_grow = c.audit_journal.ensures.files_grow;
      sink_grows = c.audit_journal.ensures.sink_grows;
      files_tell = c.audit_journal.ensures.files_tell;
      sink_tells = c.audit_journal.ensures.sink_tells;
      disk = c.audit_journal.ensures.disk;
    }

pub returns-in-Migrate : goal.returns-in-Migrate
returns-in-Migrate g c =
    record {
      ok = rw c.in-Migrate.is c.migrate_journal.ensures.ok;
      err = rw c.in-Migrate.is c.migrate_journal.ensures.err;
      files = c.migrate_journal.ensures.files;
      sink = c.migrate_journal.ensures.sink;
      failed = c.migrate_journal.ensures.failed;
      kept = c.migrate_journal.ensures.kept;
      unused = rw c.in-Migrate.is (λ no. absurd (no tt));
      files_grow = c.migrate_journal.ensures.files_grow;
      sink_grows = c.migrate_journal.ensures.sink_grows;
      files_tell = c.migrate_journal.ensures.files_tell;
      sink_tells = c.migrate_journal.ensures.sink_tells;
      disk = c.migrate_journal.ensures.disk;
    }

pub returns-in-Series : goal.returns-in-Series
returns-in-Series g c =
    record {
      ok = let o = λ (disk : DiskSeen). outside (g.F.Files.has c.args.files.now) (g.F.Files.content c.args.files.now) (g.F.Files.faults c.args.files.now) (g.F.Files.faults c.series-done.new.files) disk in
          let seen = disk_seen g.D.Disk.tells g.D.Disk.content g.D.Disk.accounts g.D.Disk.faults c.args.disk c.args.disk in
          let untouched = as_it_is g.D.Disk.tells g.D.Disk.content g.D.Disk.accounts g.D.Disk.faults c.args.disk in
          let told_out = g.O.Sink.tells c.args.out.now in
          let was = g.O.Sink.written c.args.out.now in
          let now = g.O.Sink.written c.series-done.new.out in
          rw c.in-Series.is
          (on_ok (IsTrue (g.F.Files.tells c.args.files.now) → (words : List (List ℕ)) (disk : DiskSeen) → command_of words ≡ Some (Series c.in-Series.bank.now c.in-Series.plan.now c.in-Series.forms c.in-Series.weights.now) → IsUntouched disk → Prints words (o disk) told_out was now 0)
          (IsTrue (g.F.Files.tells c.args.files.now) → (words : List (List ℕ)) → command_of words ≡ Some (Series c.in-Series.bank.now c.in-Series.plan.now c.in-Series.forms c.in-Series.weights.now) → Prints words (o seen) told_out was now 0)
          c.series-done.result (λ printed told words e. printed told words seen e untouched) c.series-done.ensures.ok);
      err = let o = λ (disk : DiskSeen). outside (g.F.Files.has c.args.files.now) (g.F.Files.content c.args.files.now) (g.F.Files.faults c.args.files.now) (g.F.Files.faults c.series-done.new.files) disk in
          let seen = disk_seen g.D.Disk.tells g.D.Disk.content g.D.Disk.accounts g.D.Disk.faults c.args.disk c.args.disk in
          let untouched = as_it_is g.D.Disk.tells g.D.Disk.content g.D.Disk.accounts g.D.Disk.faults c.args.disk in
          let told_out = g.O.Sink.tells c.args.out.now in
          let was = g.O.Sink.written c.args.out.now in
          let now = g.O.Sink.written c.series-done.new.out in
          rw c.in-Series.is
          (if_err (λ (h : Halt). IsTrue (g.F.Files.tells c.args.files.now) → (words : List (List ℕ)) (disk : DiskSeen) → command_of words ≡ Some (Series c.in-Series.bank.now c.in-Series.plan.now c.in-Series.forms c.in-Series.weights.now) → IsUntouched disk → Halts words (o disk) told_out was now h)
          (λ (h : Halt). IsTrue (g.F.Files.tells c.args.files.now) → (words : List (List ℕ)) → command_of words ≡ Some (Series c.in-Series.bank.now c.in-Series.plan.now c.in-Series.forms c.in-Series.weights.now) → Halts words (o seen) told_out was now h)
          c.series-done.result (λ h halts told words e. halts told words seen e untouched) c.series-done.ensures.err);
      files = c.series-done.ensures.files;
      sink = c.series-done.ensures.sink;
      failed = λ is. absurd (at_err IsOfNoDisk c.series-done.result Disk is c.series-done.ensures.alone);
      kept = if_err IsOfNoDisk _ c.series-done.result (λ h alone before. refl) c.series-done.ensures.alone;
      unused = λ _. refl;
      files_grow = c.series-done.ensures.files_grow;
      sink_grows = c.series-done.ensures.sink_grows;
      files_tell = c.series-done.ensures.files_tell;
      sink_tells = c.series-done.ensures.sink_tells;
      disk = lent_still g.D.Disk.tells g.D.Disk.identity g.D.Disk.faults c.args.disk;
    }
