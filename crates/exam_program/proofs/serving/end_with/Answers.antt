use Rattle.std.specs.Prelude.{string_bytes}
use Rattle.exam_program.proofs.ServeLaws.{last_text, starved_text}
use Rattle.exam_program.proofs.StatusLaws.{starved_so}
use Rattle.exam_program.proofs.serving.end_with.Goals as goal

pub returns-in-Done-clause-printed : goal.returns-in-Done-clause-printed
returns-in-Done-clause-printed g c =
    last_text (λ t. string_bytes t) (g.O.Sink.tells c.args.out.now) (g.O.Sink.written c.args.out.now) (g.O.Sink.written c.print_text.new.out) c.print_text.result
    c.args.end c.args.summary.now c.in-Done.is c.summary_line.result c.summary_line.ensures c.print_text.ensures.printed c.print_text.ensures.unprinted

pub returns-in-Starved-clause-printed : goal.returns-in-Starved-clause-printed
returns-in-Starved-clause-printed g c =
    starved_text (λ t. string_bytes t) (g.O.Sink.tells c.args.out.now) (g.O.Sink.written c.args.out.now) (g.O.Sink.written c.print_text-in-Starved.new.out) c.print_text-in-Starved.result
    c.args.end c.args.summary.now c.in-Starved.is c.summary_line-in-Starved.result c.summary_line-in-Starved.ensures c.print_text-in-Starved.ensures.printed c.print_text-in-Starved.ensures.unprinted

pub returns-in-Starved-clause-status : goal.returns-in-Starved-clause-status
returns-in-Starved-clause-status g c = starved_so c.args.end c.print_text-in-Starved.result c.in-Starved.is c.print_text-in-Starved.ensures.status
