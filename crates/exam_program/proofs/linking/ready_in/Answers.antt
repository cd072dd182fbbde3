use Rattle.std.proofs.Common.{◌≡◌, ◌∙◌, Err, ap}
use Rattle.exam_program.specs.declared.halt.Halt.TheVariants as halt
use Rattle.exam_program.specs.Outside.{outside}
use Rattle.exam_program.proofs.LinkLaws.{linked_ready, base_early, base_not_files}
use Rattle.exam_program.proofs.OutcomeLaws.{halts_at_exam, halts_at_base}
use Rattle.exam_program.proofs.linking.ready_in.Goals as goal

pub returns-in-Err-clause-err : goal.returns-in-Err-clause-err
returns-in-Err-clause-err g c = λ told words command disk told_out was e linked names untouched.
    halts_at_exam words (outside (g.F.Files.has c.args.files.now) (g.F.Files.content c.args.files.now) (g.F.Files.faults c.args.files.now) (g.F.Files.faults c.exam_in.new.files) disk)
    told_out was c.args.bank.now c.args.plan.now c.in-Err.halt (record { command = command; asked = e; names = names })
    (λ is. c.exam_in.ensures.failed (c.in-Err.is ∙ ap Err is)) untouched (c.in-Err.ensures.err told)

pub returns-in-Err-base_form-clause-err : goal.returns-in-Err-base_form-clause-err
returns-in-Err-base_form-clause-err g c = λ told words command disk told_out was e linked names untouched.
    halts_at_base words (outside (g.F.Files.has c.args.files.now) (g.F.Files.content c.args.files.now) (g.F.Files.faults c.args.files.now) (g.F.Files.faults c.exam_in.new.files) disk)
    told_out was command c.in-Ok.exam.bank c.in-Ok.exam.spec c.in-Err-base_form.halt e
    (linked_ready (g.F.Files.has c.args.files.now) (g.F.Files.content c.args.files.now) command linked c.args.bank.now c.args.plan.now names c.in-Ok.exam.bank c.in-Ok.exam.spec (c.in-Ok.ensures.ok told))
    untouched c.in-Err-base_form.ensures.halts

pub returns-in-Err-base_form-clause-early : goal.returns-in-Err-base_form-clause-early
returns-in-Err-base_form-clause-early g c = base_early c.in-Ok.exam.bank c.in-Ok.exam.spec c.in-Err-base_form.halt c.in-Err-base_form.ensures.halts

pub returns-in-Err-base_form-clause-failed : goal.returns-in-Err-base_form-clause-failed
returns-in-Err-base_form-clause-failed g c = λ is. absurd (base_not_files c.in-Ok.exam.bank c.in-Ok.exam.spec c.in-Err-base_form.halt c.in-Err-base_form.ensures.halts (let e : Err c.in-Err-base_form.halt ≡ Err halt.Files = is in cc))
