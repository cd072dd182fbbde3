use Rattle.std.proofs.Common.{◌≡◌, ℕ, List, IsTrue, Some, Err, refl, ◌∙◌, ap}
use Rattle.bank_tables.specs.Tables.{Tables}
use Rattle.command_line.specs.Commands.{Series, command_of}
use Rattle.command_line.specs.Weights.{weights_of}
use Rattle.form_model.specs.Plan.{Plan}
use Rattle.exam_program.specs.declared.halt.Halt.{Halt}
use Rattle.exam_program.specs.Halts.{Reads}
use Rattle.exam_program.specs.Outcomes.{Prints, Halts}
use Rattle.exam_program.specs.Outside.{DiskSeen, Outside, outside, IsUntouched}
use Rattle.exam_program.specs.Series.{IsSeriesOf}
use Rattle.exam_program.specs.Stopping.{IsUnprinted}
use Rattle.exam_program.specs.Writing.{IsWritten}
use Rattle.exam_program.proofs.OutcomeLaws.{halts_at_exam, halts_at_series, halts_unprinted, prints, outcome_series}
use Rattle.exam_program.proofs.RequestLaws.{on_ok, if_err}
use Rattle.exam_program.proofs.series.series.Goals as goal

asked_so : (words : List (List ℕ)) (o : Outside) (bank plan : List ℕ) (b : Tables) (p : Plan) (forms : ℕ) (word : List ℕ)
    → command_of words ≡ Some (Series bank plan forms word) → Reads o.named o.content bank plan b p → IsSeriesOf words o b p forms (weights_of word)
asked_so words o bank plan b p forms word e reads = record { bank = bank; plan = plan; word = word; asked = e; weights_are = refl; reads = reads }

pub returns-in-Err-clause-err : goal.returns-in-Err-clause-err
returns-in-Err-clause-err g c = λ told words disk e untouched.
    let o = outside (g.F.Files.has c.args.files.now) (g.F.Files.content c.args.files.now) (g.F.Files.faults c.args.files.now) (g.F.Files.faults c.exam_in.new.files) disk in
    let told_out = g.O.Sink.tells c.args.out.now in
    let was = g.O.Sink.written c.args.out.now in
    halts_at_exam words o told_out was c.args.bank.now c.args.plan.now c.in-Err.halt (record { command = Series c.args.bank.now c.args.plan.now c.args.forms c.args.weights.now; asked = e; names = refl }) (λ is. c.exam_in.ensures.failed (c.in-Err.is ∙ ap Err is)) untouched (c.in-Err.ensures.err told)

pub returns-clause-err : goal.returns-clause-err
returns-clause-err g c = λ told words disk e untouched.
    let o = outside (g.F.Files.has c.args.files.now) (g.F.Files.content c.args.files.now) (g.F.Files.faults c.args.files.now) (g.F.Files.faults c.exam_in.new.files) disk in
    let told_out = g.O.Sink.tells c.args.out.now in
    let was = g.O.Sink.written c.args.out.now in
    let b = c.in-Ok.exam.bank in
    let p = c.in-Ok.exam.spec in
    let is = asked_so words o c.args.bank.now c.args.plan.now b p c.args.forms c.args.weights.now e (c.in-Ok.ensures.ok told) in
    halts_at_series words o told_out was b p c.args.forms (weights_of c.args.weights.now) is untouched c.in-Err-text_of_series.halt c.in-Err-text_of_series.ensures.halts

pub returns-in-Ok-text_of_series-clause-ok : goal.returns-in-Ok-text_of_series-clause-ok
returns-in-Ok-text_of_series-clause-ok g c =
    let bank = c.args.bank.now in
    let plan = c.args.plan.now in
    let forms = c.args.forms in
    let word = c.args.weights.now in
    let b = c.in-Ok.exam.bank in
    let p = c.in-Ok.exam.spec in
    let o = λ (disk : DiskSeen). outside (g.F.Files.has c.args.files.now) (g.F.Files.content c.args.files.now) (g.F.Files.faults c.args.files.now) (g.F.Files.faults c.exam_in.new.files) disk in
    let told_out = g.O.Sink.tells c.args.out.now in
    let was = g.O.Sink.written c.args.out.now in
    let now = g.O.Sink.written c.put_text.new.out in
    let line = c.in-Ok-text_of_series.text.items in
    on_ok (IsWritten told_out was now line)
    (IsTrue (g.F.Files.tells c.args.files.now) → (words : List (List ℕ)) (disk : DiskSeen) → command_of words ≡ Some (Series bank plan forms word) → IsUntouched disk → Prints words (o disk) told_out was now 0)
    c.put_text.result
    (λ written told words disk e untouched. prints words (o disk) told_out was now line (outcome_series words (o disk) line b p forms (weights_of word) (asked_so words (o disk) bank plan b p forms word e (c.in-Ok.ensures.ok told)) untouched c.in-Ok-text_of_series.ensures.text) written)
    (c.put_text.ensures.ok line (refl {A = List ℕ}))

pub returns-in-Ok-text_of_series-clause-err : goal.returns-in-Ok-text_of_series-clause-err
returns-in-Ok-text_of_series-clause-err g c =
    let bank = c.args.bank.now in
    let plan = c.args.plan.now in
    let forms = c.args.forms in
    let word = c.args.weights.now in
    let b = c.in-Ok.exam.bank in
    let p = c.in-Ok.exam.spec in
    let o = λ (disk : DiskSeen). outside (g.F.Files.has c.args.files.now) (g.F.Files.content c.args.files.now) (g.F.Files.faults c.args.files.now) (g.F.Files.faults c.exam_in.new.files) disk in
    let told_out = g.O.Sink.tells c.args.out.now in
    let was = g.O.Sink.written c.args.out.now in
    let now = g.O.Sink.written c.put_text.new.out in
    let line = c.in-Ok-text_of_series.text.items in
    if_err (IsUnprinted told_out was now line)
    (λ (h : Halt). IsTrue (g.F.Files.tells c.args.files.now) → (words : List (List ℕ)) (disk : DiskSeen) → command_of words ≡ Some (Series bank plan forms word) → IsUntouched disk → Halts words (o disk) told_out was now h)
    c.put_text.result
    (λ h unprinted told words disk e untouched. halts_unprinted words (o disk) told_out was now line h (outcome_series words (o disk) line b p forms (weights_of word) (asked_so words (o disk) bank plan b p forms word e (c.in-Ok.ensures.ok told)) untouched c.in-Ok-text_of_series.ensures.text) untouched unprinted)
    (c.put_text.ensures.err line (refl {A = List ℕ}))
