use Rattle.std.proofs.Common.{◌≡◌, ℕ, Bool, List, true, IsTrue, Some, Err, refl, sym, ◌∙◌, ap, subst}
use Rattle.history_model.specs.declared.request.Request.{Request}
use Rattle.exam_program.specs.declared.halt.Halt.{Halt}
use Rattle.exam_program.specs.declared.halt.Halt.TheVariants.{Files, Sink, Disk}
use Rattle.command_line.specs.Commands.{Replay, command_of}
use Rattle.exam_program.specs.Halts.{HaltsAtScript, HaltsAtBase, IsScriptIn, IsBeforeJournal, IsEarly}
use Rattle.exam_program.specs.Outcomes.{IsReplayOf, Prints, Halts}
use Rattle.exam_program.specs.Outside.{outside, disk_seen}
use Rattle.exam_program.specs.Stopping.{Finishes, IsReplayed, Halted}
use Rattle.exam_program.proofs.OutcomeLaws.{rose_later, as_it_is, halts_at_exam, halts_at_script, halts_at_base, prints_replayed, halts_replayed}
use Rattle.exam_program.proofs.ReplayLaws.{at_err}
use Rattle.exam_program.proofs.RequestLaws.{on_ok, if_err}
use Rattle.exam_program.proofs.StatusLaws.{still, grown, lent_still}
use Rattle.exam_program.proofs.work.replay_script.Goals as goal

pub returns-in-Err : goal.returns-in-Err
returns-in-Err g c =
    record {
      ok = tt;
      err = λ told words e.
          let o = outside (g.F.Files.has c.args.files.now) (g.F.Files.content c.args.files.now) (g.F.Files.faults c.args.files.now) (g.F.Files.faults c.exam_in.new.files) (disk_seen g.D.Disk.tells g.D.Disk.content g.D.Disk.accounts g.D.Disk.faults c.args.disk c.args.disk) in
          let told_out = g.O.Sink.tells c.args.out.now in
          let was = g.O.Sink.written c.args.out.now in
          let asked = Replay c.args.bank.now c.args.plan.now c.args.script.now in
          halts_at_exam words o told_out was c.args.bank.now c.args.plan.now c.in-Err.halt (record { command = asked; asked = e; names = refl }) (λ is. c.exam_in.ensures.failed (c.in-Err.is ∙ ap Err is)) (as_it_is g.D.Disk.tells g.D.Disk.content g.D.Disk.accounts g.D.Disk.faults c.args.disk) (c.in-Err.ensures.err told);
      files = λ is. c.exam_in.ensures.failed (c.in-Err.is ∙ ap Err (at_err (λ (h : Halt). c.in-Err.halt ≡ h) (Err c.in-Err.halt) Files is refl));
      sink = λ is. absurd (at_err IsEarly (Err c.in-Err.halt) Sink is c.in-Err.ensures.early);
      failed = λ is. absurd (at_err IsEarly (Err c.in-Err.halt) Disk is c.in-Err.ensures.early);
      kept = λ _. refl;
      files_grow = c.exam_in.ensures.grows;
      sink_grows = still (g.O.Sink.faults c.args.out.now);
      files_tell = c.exam_in.ensures.tells;
      sink_tells = refl;
      disk = lent_still g.D.Disk.tells g.D.Disk.identity g.D.Disk.faults c.args.disk;
    }

pub returns-in-Err-script_in : goal.returns-in-Err-script_in
returns-in-Err-script_in g c =
    record {
      ok = tt;
      err = λ told words e.
          let o = outside (g.F.Files.has c.args.files.now) (g.F.Files.content c.args.files.now) (g.F.Files.faults c.args.files.now) (g.F.Files.faults c.script_in.new.files) (disk_seen g.D.Disk.tells g.D.Disk.content g.D.Disk.accounts g.D.Disk.faults c.args.disk c.args.disk) in
          let told_out = g.O.Sink.tells c.args.out.now in
          let was = g.O.Sink.written c.args.out.now in
          let asked = Replay c.args.bank.now c.args.plan.now c.args.script.now in
          let there : g.F.Files.tells c.exam_in.new.files ≡ true = c.in-Ok.ensures.tells ∙ told in
          let same = c.in-Ok.ensures.content told c.args.script.now in
          let found = subst (λ (has : Bool). HaltsAtScript has (g.F.Files.content c.exam_in.new.files c.args.script.now) c.in-Err-script_in.halt) (c.in-Ok.ensures.names told c.args.script.now) (c.in-Err-script_in.ensures.err there) in
          let rose = λ (is : c.in-Err-script_in.halt ≡ Files). rose_later (g.F.Files.faults c.args.files.now) (g.F.Files.faults c.exam_in.new.files) (g.F.Files.faults c.script_in.new.files) c.in-Ok.ensures.grows (c.script_in.ensures.failed (c.in-Err-script_in.is ∙ ap Err is)) in
          halts_at_script words o told_out was c.args.bank.now c.args.plan.now c.args.script.now c.in-Ok.exam.bank c.in-Ok.exam.spec c.in-Err-script_in.halt e (c.in-Ok.ensures.ok told) rose (as_it_is g.D.Disk.tells g.D.Disk.content g.D.Disk.accounts g.D.Disk.faults c.args.disk)
          (subst (λ (text : List ℕ). HaltsAtScript (g.F.Files.has c.args.files.now c.args.script.now) text c.in-Err-script_in.halt) same found);
      files = λ is. rose_later (g.F.Files.faults c.args.files.now) (g.F.Files.faults c.exam_in.new.files) (g.F.Files.faults c.script_in.new.files) c.exam_in.ensures.grows (c.script_in.ensures.failed (c.in-Err-script_in.is ∙ ap Err (at_err (λ (h : Halt). c.in-Err-script_in.halt ≡ h) (Err c.in-Err-script_in.halt) Files is refl)));
      sink = λ is. absurd (at_err IsEarly (Err c.in-Err-script_in.halt) Sink is c.in-Err-script_in.ensures.early);
      failed = λ is. absurd (at_err IsEarly (Err c.in-Err-script_in.halt) Disk is c.in-Err-script_in.ensures.early);
      kept = λ _. refl;
      files_grow = grown (g.F.Files.faults c.args.files.now) (g.F.Files.faults c.exam_in.new.files) (g.F.Files.faults c.script_in.new.files) c.exam_in.ensures.grows c.script_in.ensures.grows;
      sink_grows = still (g.O.Sink.faults c.args.out.now);
      files_tell = c.script_in.ensures.tells ∙ c.exam_in.ensures.tells;
      sink_tells = refl;
      disk = lent_still g.D.Disk.tells g.D.Disk.identity g.D.Disk.faults c.args.disk;
    }

pub returns-in-Err-base_form : goal.returns-in-Err-base_form
returns-in-Err-base_form g c =
    record {
      ok = tt;
      err = λ told words e.
          let o = outside (g.F.Files.has c.args.files.now) (g.F.Files.content c.args.files.now) (g.F.Files.faults c.args.files.now) (g.F.Files.faults c.script_in.new.files) (disk_seen g.D.Disk.tells g.D.Disk.content g.D.Disk.accounts g.D.Disk.faults c.args.disk c.args.disk) in
          let told_out = g.O.Sink.tells c.args.out.now in
          let was = g.O.Sink.written c.args.out.now in
          let asked = Replay c.args.bank.now c.args.plan.now c.args.script.now in
          let there : g.F.Files.tells c.exam_in.new.files ≡ true = c.in-Ok.ensures.tells ∙ told in
          let found : g.F.Files.has c.args.files.now c.args.script.now ≡ true = sym (c.in-Ok.ensures.names told c.args.script.now) ∙ c.in-Ok-script_in.ensures.there there in
          let says : IsScriptIn (g.F.Files.content c.args.files.now c.args.script.now) c.in-Ok-script_in.requests.items = subst (λ (text : List ℕ). IsScriptIn text c.in-Ok-script_in.requests.items) (c.in-Ok.ensures.content told c.args.script.now) (c.in-Ok-script_in.ensures.ok there) in
          halts_at_base words o told_out was asked c.in-Ok.exam.bank c.in-Ok.exam.spec c.in-Err-base_form.halt e (c.in-Ok.ensures.ok told, found, (c.in-Ok-script_in.requests.items, says)) (as_it_is g.D.Disk.tells g.D.Disk.content g.D.Disk.accounts g.D.Disk.faults c.args.disk) c.in-Err-base_form.ensures.halts;
      files = λ is. absurd (at_err (HaltsAtBase c.in-Ok.exam.bank c.in-Ok.exam.spec) (Err c.in-Err-base_form.halt) Files is c.in-Err-base_form.ensures.halts);
      sink = λ is. absurd (at_err (HaltsAtBase c.in-Ok.exam.bank c.in-Ok.exam.spec) (Err c.in-Err-base_form.halt) Sink is c.in-Err-base_form.ensures.halts);
      failed = λ is. absurd (at_err (HaltsAtBase c.in-Ok.exam.bank c.in-Ok.exam.spec) (Err c.in-Err-base_form.halt) Disk is c.in-Err-base_form.ensures.halts);
      kept = λ _. refl;
      files_grow = grown (g.F.Files.faults c.args.files.now) (g.F.Files.faults c.exam_in.new.files) (g.F.Files.faults c.script_in.new.files) c.exam_in.ensures.grows c.script_in.ensures.grows;
      sink_grows = still (g.O.Sink.faults c.args.out.now);
      files_tell = c.script_in.ensures.tells ∙ c.exam_in.ensures.tells;
      sink_tells = refl;
      disk = lent_still g.D.Disk.tells g.D.Disk.identity g.D.Disk.faults c.args.disk;
    }

pub returns : goal.returns
returns g c =
    record {
      ok = let o = outside (g.F.Files.has c.args.files.now) (g.F.Files.content c.args.files.now) (g.F.Files.faults c.args.files.now) (g.F.Files.faults c.script_in.new.files) (disk_seen g.D.Disk.tells g.D.Disk.content g.D.Disk.accounts g.D.Disk.faults c.args.disk c.replay.result.0) in
          let told_out = g.O.Sink.tells c.args.out.now in
          let was = g.O.Sink.written c.args.out.now in
          let asked = Replay c.args.bank.now c.args.plan.now c.args.script.now in
          let b = c.in-Ok.exam.bank in
          let p = c.in-Ok.exam.spec in
          let base = c.in-Ok-base_form.base in
          let now = g.O.Sink.written c.replay.new.out in
          on_ok (Finishes (IsReplayed b p base o.disk c.deref.result.now) told_out was now)
          (IsTrue (g.F.Files.tells c.args.files.now) → (words : List (List ℕ)) → command_of words ≡ Some asked → Prints words o told_out was now 0) c.replay.result.1
          (λ finishes told words e.
          let there : g.F.Files.tells c.exam_in.new.files ≡ true = c.in-Ok.ensures.tells ∙ told in
          let found : g.F.Files.has c.args.files.now c.args.script.now ≡ true = sym (c.in-Ok.ensures.names told c.args.script.now) ∙ c.in-Ok-script_in.ensures.there there in
          let says : IsScriptIn (g.F.Files.content c.args.files.now c.args.script.now) c.in-Ok-script_in.requests.items = subst (λ (text : List ℕ). IsScriptIn text c.in-Ok-script_in.requests.items) (c.in-Ok.ensures.content told c.args.script.now) (c.in-Ok-script_in.ensures.ok there) in
          let is : IsReplayOf words o b p c.in-Ok-script_in.requests.items base = record {
            bank = c.args.bank.now;
            plan = c.args.plan.now;
            name = c.args.script.now;
            asked = e;
            reads = record { reads = c.in-Ok.ensures.ok told; has_script = found; says_script = says; is_base = c.in-Ok-base_form.ensures.base };
          } in
          prints_replayed words o told_out was b p base c.in-Ok-script_in.requests.items is now (subst (λ (requests : List Request). Finishes (IsReplayed b p base o.disk requests) told_out was now) c.deref.ensures.value finishes)) c.replay.ensures.ok;
      err = let o = outside (g.F.Files.has c.args.files.now) (g.F.Files.content c.args.files.now) (g.F.Files.faults c.args.files.now) (g.F.Files.faults c.script_in.new.files) (disk_seen g.D.Disk.tells g.D.Disk.content g.D.Disk.accounts g.D.Disk.faults c.args.disk c.replay.result.0) in
          let told_out = g.O.Sink.tells c.args.out.now in
          let was = g.O.Sink.written c.args.out.now in
          let asked = Replay c.args.bank.now c.args.plan.now c.args.script.now in
          let b = c.in-Ok.exam.bank in
          let p = c.in-Ok.exam.spec in
          let base = c.in-Ok-base_form.base in
          let now = g.O.Sink.written c.replay.new.out in
          if_err (Halted b p base o.disk c.deref.result.now told_out was now)
          (λ (h : Halt). IsTrue (g.F.Files.tells c.args.files.now) → (words : List (List ℕ)) → command_of words ≡ Some asked → Halts words o told_out was now h) c.replay.result.1
          (λ h halted told words e.
          let there : g.F.Files.tells c.exam_in.new.files ≡ true = c.in-Ok.ensures.tells ∙ told in
          let found : g.F.Files.has c.args.files.now c.args.script.now ≡ true = sym (c.in-Ok.ensures.names told c.args.script.now) ∙ c.in-Ok-script_in.ensures.there there in
          let says : IsScriptIn (g.F.Files.content c.args.files.now c.args.script.now) c.in-Ok-script_in.requests.items = subst (λ (text : List ℕ). IsScriptIn text c.in-Ok-script_in.requests.items) (c.in-Ok.ensures.content told c.args.script.now) (c.in-Ok-script_in.ensures.ok there) in
          let is : IsReplayOf words o b p c.in-Ok-script_in.requests.items base = record {
            bank = c.args.bank.now;
            plan = c.args.plan.now;
            name = c.args.script.now;
            asked = e;
            reads = record { reads = c.in-Ok.ensures.ok told; has_script = found; says_script = says; is_base = c.in-Ok-base_form.ensures.base };
          } in
          halts_replayed words o told_out was b p base c.in-Ok-script_in.requests.items is now h (subst (λ (requests : List Request). Halted b p base o.disk requests told_out was now h) c.deref.ensures.value halted)) c.replay.ensures.err;
      files = λ is. absurd (at_err (λ (h : Halt). IsBeforeJournal h → ⊥) c.replay.result.1 Files is c.replay.ensures.opened tt);
      sink = c.replay.ensures.sink;
      failed = c.replay.ensures.failed;
      kept = if_err (λ (h : Halt). IsBeforeJournal h → ⊥) (λ (h : Halt). IsBeforeJournal h → c.replay.result.0 ≡ c.args.disk) c.replay.result.1 (λ h late before. absurd (late before)) c.replay.ensures.opened;
      files_grow = grown (g.F.Files.faults c.args.files.now) (g.F.Files.faults c.exam_in.new.files) (g.F.Files.faults c.script_in.new.files) c.exam_in.ensures.grows c.script_in.ensures.grows;
      sink_grows = c.replay.ensures.grows;
      files_tell = c.script_in.ensures.tells ∙ c.exam_in.ensures.tells;
      sink_tells = c.replay.ensures.tells;
      disk = c.replay.ensures.disk;
    }

-- what the disk allows
pub replay-requires-clause-allows : goal.replay-requires-clause-allows
replay-requires-clause-allows g c =
    c.requires.allows c.args.bank.now c.args.plan.now c.in-Ok.exam.bank c.in-Ok.exam.spec c.in-Ok.ensures.ok
