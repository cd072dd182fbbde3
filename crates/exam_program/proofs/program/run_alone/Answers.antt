use Rattle.std.proofs.Common.{ℕ, List, inl, inr}
use Rattle.std.specs.Prelude.{map, string_bytes}
use Rattle.exam_text.specs.Texts.{no_memory}
use Rattle.exam_program.specs.Outcomes.{as_found}
use Rattle.exam_program.specs.Outside.{outside, disk_seen}
use Rattle.exam_program.proofs.CauseLaws.{ends_at_10}
use Rattle.exam_program.proofs.OutcomeLaws.{as_it_is, halts_without_memory, leaves_journal, is_8, is_10, also}
use Rattle.exam_program.proofs.program.run_alone.Goals as goal

pub returns-in-Ok-clause-answers : goal.returns-in-Ok-clause-answers
returns-in-Ok-clause-answers g c = λ told. c.status_of-disk.ensures.answers told _ c.in-Ok.ensures.command

pub returns-in-Ok-clause-cause : goal.returns-in-Ok-clause-cause
returns-in-Ok-clause-cause g c = λ told. c.status_of-disk.ensures.cause told _ c.in-Ok.ensures.command

pub returns-in-Ok-clause-failed : goal.returns-in-Ok-clause-failed
returns-in-Ok-clause-failed g c = c.status_of-disk.ensures.failed

pub returns-in-Ok-clause-kept : goal.returns-in-Ok-clause-kept
returns-in-Ok-clause-kept g c = c.status_of-disk.ensures.kept

pub returns-in-Ok-clause-unused : goal.returns-in-Ok-clause-unused
returns-in-Ok-clause-unused g c = rw (← c.in-Ok.ensures.command) c.status_of-disk.ensures.unused

pub returns-in-Ok-clause-disk : goal.returns-in-Ok-clause-disk
returns-in-Ok-clause-disk g c = c.status_of-disk.ensures.disk

pub returns-in-Ok-clause-journal : goal.returns-in-Ok-clause-journal
returns-in-Ok-clause-journal g c = λ told.
    let words : List (List ℕ) = map (λ w. string_bytes w) c.args.words.now in
    let seen = disk_seen g.D.Disk.tells g.D.Disk.content g.D.Disk.accounts g.D.Disk.faults c.args.tools.disk c.status_of-disk.result.0 in
    let o = outside (g.F.Files.has c.args.tools.files) (g.F.Files.content c.args.tools.files) (g.F.Files.faults c.args.tools.files) (g.F.Files.faults c.status_of-disk.new.files) seen in
    leaves_journal words o (g.O.Sink.tells c.args.tools.out) (g.O.Sink.written c.args.tools.out) (g.O.Sink.written c.status_of-disk.new.out) c.status_of-disk.result.1 (c.status_of-disk.ensures.answers told words c.in-Ok.ensures.command)

pub returns-in-Err-clause-answers : goal.returns-in-Err-clause-answers
unfolding no_memory
returns-in-Err-clause-answers g c = λ told.
    let words : List (List ℕ) = map (λ w. string_bytes w) c.args.words.now in
    let faults : ℕ = g.F.Files.faults c.args.tools.files in
    let o = outside (g.F.Files.has c.args.tools.files) (g.F.Files.content c.args.tools.files) faults faults (disk_seen g.D.Disk.tells g.D.Disk.content g.D.Disk.accounts g.D.Disk.faults c.args.tools.disk c.args.tools.disk) in
    c.print-status.ensures.answers words o (g.O.Sink.written c.args.tools.out)
    (halts_without_memory words o (g.O.Sink.tells c.args.tools.out) (g.O.Sink.written c.args.tools.out) (as_it_is g.D.Disk.tells g.D.Disk.content g.D.Disk.accounts g.D.Disk.faults c.args.tools.disk))

pub returns-in-Err-clause-cause : goal.returns-in-Err-clause-cause
returns-in-Err-clause-cause g c = λ told. ends_at_10 (map (λ w. string_bytes w) c.args.words.now) c.print-status.result c.print-status.ensures.status

pub returns-in-Err-clause-journal : goal.returns-in-Err-clause-journal
returns-in-Err-clause-journal g c = λ told. as_found (as_it_is g.D.Disk.tells g.D.Disk.content g.D.Disk.accounts g.D.Disk.faults c.args.tools.disk)

pub returns-in-Err-clause-status : goal.returns-in-Err-clause-status
returns-in-Err-clause-status g c = elim c.print-status.ensures.status [ inl e ↦ also 10 c.print-status.result e is_10 | inr e ↦ also 8 c.print-status.result e.0 is_8 ]
