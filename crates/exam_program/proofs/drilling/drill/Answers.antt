use Rattle.std.proofs.Common.{◌≡◌, ℕ, List, ◌++◌, Some}
use Rattle.command_line.specs.Commands.{Drill, command_of}
use Rattle.exam_drill.specs.Texts.{drill_text}
use Rattle.exam_lines.specs.Texts.{summary_text}
use Rattle.exam_program.specs.declared.halt.Halt.{Halt}
use Rattle.exam_program.specs.Outcomes.{Prints, Halts, drilled}
use Rattle.exam_program.specs.Outside.{Outside, IsUntouched}
use Rattle.exam_program.specs.Stopping.{IsUnprinted}
use Rattle.exam_program.specs.Writing.{IsWritten}
use Rattle.exam_program.proofs.OutcomeLaws.{halts_at_drill, halts_unprinted, prints}
use Rattle.exam_program.proofs.RequestLaws.{on_ok, if_err}
use Rattle.exam_program.proofs.drilling.drill.Goals as goal

pub returns-in-Err-clause-err : goal.returns-in-Err-clause-err
returns-in-Err-clause-err g c = λ words o e untouched.
    halts_at_drill words o (g.O.Sink.tells c.args.out.now) (g.O.Sink.written c.args.out.now) untouched c.halt_of_drill.result c.halt_of_drill.ensures.halts

pub returns-in-Ok-clause-ok : goal.returns-in-Ok-clause-ok
returns-in-Ok-clause-ok g c =
    let told = g.O.Sink.tells c.args.out.now in
    let was = g.O.Sink.written c.args.out.now in
    let now = g.O.Sink.written c.put_text.new.out in
    let n = c.args.number in
    let sessions = c.args.sessions in
    let line = drill_text n sessions ++ summary_text c.in-Ok.summary in
    on_ok (IsWritten told was now line)
    ((words : List (List ℕ)) (o : Outside) → command_of words ≡ Some (Drill n sessions) → IsUntouched o.disk → Prints words o told was now 0) c.put_text.result
    (λ written words o e untouched. prints words o told was now line (drilled n sessions c.in-Ok.summary e c.in-Ok.ensures.ok untouched) written)
    (c.put_text.ensures.ok line c.drill_text.ensures)

pub returns-in-Ok-clause-err : goal.returns-in-Ok-clause-err
returns-in-Ok-clause-err g c =
    let told = g.O.Sink.tells c.args.out.now in
    let was = g.O.Sink.written c.args.out.now in
    let now = g.O.Sink.written c.put_text.new.out in
    let n = c.args.number in
    let sessions = c.args.sessions in
    let line = drill_text n sessions ++ summary_text c.in-Ok.summary in
    if_err (IsUnprinted told was now line)
    (λ (h : Halt). (words : List (List ℕ)) (o : Outside) → command_of words ≡ Some (Drill n sessions) → IsUntouched o.disk → Halts words o told was now h) c.put_text.result
    (λ h unprinted words o e untouched. halts_unprinted words o told was now line h (drilled n sessions c.in-Ok.summary e c.in-Ok.ensures.ok untouched) untouched unprinted)
    (c.put_text.ensures.err line c.drill_text.ensures)
