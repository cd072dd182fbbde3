use Rattle.exam_program.proofs.ServeLaws.{ends_over, disk_ends}
use Rattle.exam_program.proofs.StatusLaws.{serving_not_9, ending_so, disk_ending_so}
use Rattle.exam_program.proofs.serving.end_over.Goals as goal

pub returns-in-Ok-clause-printed : goal.returns-in-Ok-clause-printed
returns-in-Ok-clause-printed g c =
    ends_over (g.O.Sink.tells c.args.out.now) (g.O.Sink.written c.args.out.now) (g.O.Sink.written c.end_with.new.out) c.end_with.result
    c.args.end c.args.summary.now c.end_with.ensures.printed

pub returns-in-Ok-clause-status : goal.returns-in-Ok-clause-status
returns-in-Ok-clause-status g c = ending_so c.args.end c.end_with.result c.end_with.ensures.status

pub returns-in-Ok-clause-failed : goal.returns-in-Ok-clause-failed
returns-in-Ok-clause-failed g c = λ is. absurd (serving_not_9 c.args.end c.end_with.result c.end_with.ensures.status is)

pub returns-in-Err-clause-printed : goal.returns-in-Err-clause-printed
returns-in-Err-clause-printed g c =
    disk_ends (g.O.Sink.tells c.args.out.now) (g.O.Sink.written c.args.out.now) (g.O.Sink.written c.print_disk_failed.new.out) c.print_disk_failed.result
    c.args.end c.args.summary.now c.in-Err.ensures.done c.print_disk_failed.ensures.printed

pub returns-in-Err-clause-status : goal.returns-in-Err-clause-status
returns-in-Err-clause-status g c = disk_ending_so c.args.end c.print_disk_failed.result c.in-Err.ensures.done c.print_disk_failed.ensures.status
