use Rattle.std.proofs.Common.{◌≡◌, ℕ, List, IsTrue, Some, None, Err, inl, inr, sym, ◌∙◌, ap}
use Rattle.std.specs.Option.{option_map}
use Rattle.command_line.specs.Commands.{command_of, said}
use Rattle.exam_program.specs.Outside.{outside, disk_seen}
use Rattle.exam_program.specs.Texts.{usage}
use Rattle.exam_program.proofs.CauseLaws.{ends_as, ends_at_0, ends_at_2}
use Rattle.exam_program.proofs.OutcomeLaws.{as_it_is, before_usage, is_2, is_8, also, ends_by}
use Rattle.exam_program.specs.declared.halt.Halt.{Halt}
use Rattle.exam_program.specs.Halts.{IsBeforeJournal}
use Rattle.exam_program.specs.Outcomes.{Halts}
use Rattle.exam_program.proofs.ReplayLaws.{at_err}
use Rattle.exam_program.proofs.StatusLaws.{at_files, at_disk, at_before, not_usage}
use Rattle.exam_program.proofs.program.status_of.Goals as goal

pub returns-in_default-clause-answers : goal.returns-in_default-clause-answers
unfolding usage
returns-in_default-clause-answers g c = λ told words e.
    let faulty : command_of words ≡ None = sym e ∙ ap (option_map said) c.in_default.is in
    let faults : ℕ = g.F.Files.faults c.args.files.now in
    let o = outside (g.F.Files.has c.args.files.now) (g.F.Files.content c.args.files.now) faults faults (disk_seen g.D.Disk.tells g.D.Disk.content g.D.Disk.accounts g.D.Disk.faults c.args.disk c.args.disk) in
    c.print-status.ensures.answers words o (g.O.Sink.written c.args.out.now) (before_usage words o (g.O.Sink.tells c.args.out.now) (g.O.Sink.written c.args.out.now) faulty (as_it_is g.D.Disk.tells g.D.Disk.content g.D.Disk.accounts g.D.Disk.faults c.args.disk))

pub returns-in_default-clause-cause : goal.returns-in_default-clause-cause
returns-in_default-clause-cause g c = λ told words e. ends_at_2 words c.print-status.result c.print-status.ensures.status

pub returns-in_default-clause-status : goal.returns-in_default-clause-status
returns-in_default-clause-status g c = elim c.print-status.ensures.status [ inl e ↦ also 2 c.print-status.result e is_2 | inr e ↦ also 8 c.print-status.result e.0 is_8 ]

pub returns-in-Ok-clause-cause : goal.returns-in-Ok-clause-cause
returns-in-Ok-clause-cause g c = λ told words e. ends_at_0 words

pub returns-in-Err-clause-cause : goal.returns-in-Err-clause-cause
returns-in-Err-clause-cause g c = λ told words e.
    let asked = sym e ∙ ap (option_map said) c.in-Some.is in
    let seen = disk_seen g.D.Disk.tells g.D.Disk.content g.D.Disk.accounts g.D.Disk.faults c.args.disk c.work-disk.result.0 in
    let o = outside (g.F.Files.has c.args.files.now) (g.F.Files.content c.args.files.now) (g.F.Files.faults c.args.files.now) (g.F.Files.faults c.work-disk.new.files) seen in
    let told_out = g.O.Sink.tells c.args.out.now in
    let was = g.O.Sink.written c.args.out.now in
    let now = g.O.Sink.written c.work-disk.new.out in
    ends_as words o told_out was now c.in-Err.halt c.report-status.result
    (at_err (λ (h : Halt). IsTrue (g.F.Files.tells c.args.files.now) → (ws : List (List ℕ)) → command_of ws ≡ Some (said c.in-Some.command) → Halts ws o told_out was now h)
    c.work-disk.result.1 c.in-Err.halt c.in-Err.is c.work-disk.ensures.err told words asked)
    c.report-status.ensures.status

pub returns-in-Err-clause-status : goal.returns-in-Err-clause-status
returns-in-Err-clause-status g c = elim c.report-status.ensures.status [ inl e ↦ ends_by c.in-Err.halt c.report-status.result e | inr e ↦ also 8 c.report-status.result e.0 is_8 ]

pub returns-in-Err-clause-usage : goal.returns-in-Err-clause-usage
returns-in-Err-clause-usage g c = λ is. absurd (not_usage c.in-Err.halt c.report-status.result c.report-status.ensures.status is)

pub returns-in-Err-clause-files : goal.returns-in-Err-clause-files
returns-in-Err-clause-files g c = at_files c.in-Err.halt c.report-status.result c.report-status.ensures.status (λ is. c.work-disk.ensures.files (c.in-Err.is ∙ ap Err is))

pub returns-in-Err-clause-failed : goal.returns-in-Err-clause-failed
returns-in-Err-clause-failed g c = at_disk c.in-Err.halt c.report-status.result c.report-status.ensures.status (λ is. c.work-disk.ensures.failed (c.in-Err.is ∙ ap Err is))

pub returns-in-Err-clause-kept : goal.returns-in-Err-clause-kept
returns-in-Err-clause-kept g c = λ before.
    at_err (λ (h : Halt). IsBeforeJournal h → c.work-disk.result.0 ≡ c.args.disk) c.work-disk.result.1 c.in-Err.halt c.in-Err.is c.work-disk.ensures.kept (at_before c.in-Err.halt c.report-status.result c.report-status.ensures.status before)
