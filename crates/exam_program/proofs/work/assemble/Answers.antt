use Rattle.std.proofs.Common.{◌≡◌, ℕ, List, IsTrue, Some, Err, refl, ◌∙◌, ap}
use Rattle.command_line.specs.Commands.{Assemble, command_of}
use Rattle.exam_program.specs.declared.halt.Halt.{Halt}
use Rattle.exam_program.specs.Outcomes.{Prints, Halts}
use Rattle.exam_program.specs.Outside.{DiskSeen, outside, IsUntouched}
use Rattle.exam_program.specs.Stopping.{IsUnprinted}
use Rattle.exam_program.specs.Writing.{IsWritten}
use Rattle.exam_program.proofs.OutcomeLaws.{halts_at_exam, halts_at_base, halts_unprinted, prints, outcome_assembled}
use Rattle.exam_program.proofs.RequestLaws.{on_ok, if_err}
use Rattle.exam_program.proofs.work.assemble.Goals as goal

pub returns-in-Err-clause-err : goal.returns-in-Err-clause-err
returns-in-Err-clause-err g c = λ told words disk e untouched.
    let o = outside (g.F.Files.has c.args.files.now) (g.F.Files.content c.args.files.now) (g.F.Files.faults c.args.files.now) (g.F.Files.faults c.exam_in.new.files) disk in
    let told_out = g.O.Sink.tells c.args.out.now in
    let was = g.O.Sink.written c.args.out.now in
    halts_at_exam words o told_out was c.args.bank.now c.args.plan.now c.in-Err.halt (record { command = Assemble c.args.bank.now c.args.plan.now; asked = e; names = refl }) (λ is. c.exam_in.ensures.failed (c.in-Err.is ∙ ap Err is)) untouched (c.in-Err.ensures.err told)

pub returns-clause-err : goal.returns-clause-err
returns-clause-err g c = λ told words disk e untouched.
    let o = outside (g.F.Files.has c.args.files.now) (g.F.Files.content c.args.files.now) (g.F.Files.faults c.args.files.now) (g.F.Files.faults c.exam_in.new.files) disk in
    let told_out = g.O.Sink.tells c.args.out.now in
    let was = g.O.Sink.written c.args.out.now in
    halts_at_base words o told_out was (Assemble c.args.bank.now c.args.plan.now) c.in-Ok.exam.bank c.in-Ok.exam.spec c.in-Err-assembly_text.halt e (c.in-Ok.ensures.ok told) untouched c.in-Err-assembly_text.ensures.halts

pub returns-in-Ok-assembly_text-clause-ok : goal.returns-in-Ok-assembly_text-clause-ok
returns-in-Ok-assembly_text-clause-ok g c =
    let bank = c.args.bank.now in
    let plan = c.args.plan.now in
    let b = c.in-Ok.exam.bank in
    let p = c.in-Ok.exam.spec in
    let o = λ (disk : DiskSeen). outside (g.F.Files.has c.args.files.now) (g.F.Files.content c.args.files.now) (g.F.Files.faults c.args.files.now) (g.F.Files.faults c.exam_in.new.files) disk in
    let told_out = g.O.Sink.tells c.args.out.now in
    let was = g.O.Sink.written c.args.out.now in
    let now = g.O.Sink.written c.put_text.new.out in
    let line = c.in-Ok-assembly_text.text.items in
    on_ok (IsWritten told_out was now line)
    (IsTrue (g.F.Files.tells c.args.files.now) → (words : List (List ℕ)) (disk : DiskSeen) → command_of words ≡ Some (Assemble bank plan) → IsUntouched disk → Prints words (o disk) told_out was now 0)
    c.put_text.result
    (λ written told words disk e untouched. prints words (o disk) told_out was now line (outcome_assembled words (o disk) line bank plan b p e (c.in-Ok.ensures.ok told) untouched c.in-Ok-assembly_text.ensures.text) written)
    (c.put_text.ensures.ok line (refl {A = List ℕ}))

pub returns-in-Ok-assembly_text-clause-err : goal.returns-in-Ok-assembly_text-clause-err
returns-in-Ok-assembly_text-clause-err g c =
    let bank = c.args.bank.now in
    let plan = c.args.plan.now in
    let b = c.in-Ok.exam.bank in
    let p = c.in-Ok.exam.spec in
    let o = λ (disk : DiskSeen). outside (g.F.Files.has c.args.files.now) (g.F.Files.content c.args.files.now) (g.F.Files.faults c.args.files.now) (g.F.Files.faults c.exam_in.new.files) disk in
    let told_out = g.O.Sink.tells c.args.out.now in
    let was = g.O.Sink.written c.args.out.now in
    let now = g.O.Sink.written c.put_text.new.out in
    let line = c.in-Ok-assembly_text.text.items in
    if_err (IsUnprinted told_out was now line)
    (λ (h : Halt). IsTrue (g.F.Files.tells c.args.files.now) → (words : List (List ℕ)) (disk : DiskSeen) → command_of words ≡ Some (Assemble bank plan) → IsUntouched disk → Halts words (o disk) told_out was now h)
    c.put_text.result
    (λ h unprinted told words disk e untouched. halts_unprinted words (o disk) told_out was now line h (outcome_assembled words (o disk) line bank plan b p e (c.in-Ok.ensures.ok told) untouched c.in-Ok-assembly_text.ensures.text) untouched unprinted)
    (c.put_text.ensures.err line (refl {A = List ℕ}))
