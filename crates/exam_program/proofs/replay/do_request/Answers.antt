use Rattle.std.proofs.Common.{◌≡◌, ◌∙◌, Some, None, sym, ap}
use Rattle.form_model.specs.Plan.{Plan}
use Rattle.replay_cli.specs.Replies.{line_of}
use Rattle.exam_program.specs.Replays.{halt_of}
use Rattle.exam_program.specs.Stopping.{IsAnswered, IsStopped, IsUnprinted}
use Rattle.exam_program.specs.Writing.{IsWritten}
use Rattle.exam_program.proofs.RequestLaws.{becomes_so, good_so, each_so, done_so, halt_so, unprinted_so, on_ok, if_err, nothing_written}
use Rattle.exam_program.proofs.replay.do_request.Goals as goal

-- why it has no line
pub returns-in-Some-clause-err : goal.returns-in-Some-clause-err
returns-in-Some-clause-err g c =
    let request = c.args.request.now in
    let old = c.args.alone.now.office in
    let new = c.ask-reply.new.self.office in
    let reply = c.ask-reply.result in
    let asked = c.ask-reply.ensures.asked in
    let told = g.O.Sink.tells c.args.out.now in
    let was = g.O.Sink.written c.args.out.now in
    let e : halt_of old.plan reply ≡ Some c.in-Some.halt = ap (λ (p : Plan). halt_of p reply) (sym (c.spec.ensures ∙ asked.steps.same.plan)) ∙ (sym c.halt_of.ensures ∙ c.in-Some.is) in
    halt_so request old new old.bank old.plan old.base told was was reply c.in-Some.halt e (becomes_so request old new reply c.requires.durable.sure asked) (nothing_written told was)

-- what a crash may leave
pub returns-in-Some-clause-each : goal.returns-in-Some-clause-each
returns-in-Some-clause-each g c = each_so c.args.request.now c.args.alone.now.office c.ask-reply.new.self.office c.ask-reply.result c.requires.durable.sure c.ask-reply.ensures.asked

pub returns-clause-each : goal.returns-clause-each
returns-clause-each g c = each_so c.args.request.now c.args.alone.now.office c.ask-reply.new.self.office c.ask-reply.result c.requires.durable.sure c.ask-reply.ensures.asked

-- its line
pub returns-clause-ok : goal.returns-clause-ok
returns-clause-ok g c =
    let request = c.args.request.now in
    let old = c.args.alone.now.office in
    let new = c.ask-reply.new.self.office in
    let reply = c.ask-reply.result in
    let asked = c.ask-reply.ensures.asked in
    let told = g.O.Sink.tells c.args.out.now in
    let was = g.O.Sink.written c.args.out.now in
    let now = g.O.Sink.written c.print_reply.new.out in
    let e : halt_of old.plan reply ≡ None = ap (λ (p : Plan). halt_of p reply) (sym (c.spec.ensures ∙ asked.steps.same.plan)) ∙ (sym c.halt_of.ensures ∙ c.in-None.is) in
    let done = done_so request old new old.bank old.plan old.base reply e (becomes_so request old new reply c.requires.durable.sure asked) (good_so request old new reply c.requires.durable.sure asked) in
    on_ok (IsWritten told was now (line_of reply)) (IsAnswered old.bank old.plan old.base request old new told was now) c.print_reply.result (λ written. record { reply = reply; done = done; written = written }) c.print_reply.ensures.ok

pub returns-clause-err : goal.returns-clause-err
returns-clause-err g c =
    let request = c.args.request.now in
    let old = c.args.alone.now.office in
    let new = c.ask-reply.new.self.office in
    let reply = c.ask-reply.result in
    let asked = c.ask-reply.ensures.asked in
    let told = g.O.Sink.tells c.args.out.now in
    let was = g.O.Sink.written c.args.out.now in
    let now = g.O.Sink.written c.print_reply.new.out in
    let e : halt_of old.plan reply ≡ None = ap (λ (p : Plan). halt_of p reply) (sym (c.spec.ensures ∙ asked.steps.same.plan)) ∙ (sym c.halt_of.ensures ∙ c.in-None.is) in
    let done = done_so request old new old.bank old.plan old.base reply e (becomes_so request old new reply c.requires.durable.sure asked) (good_so request old new reply c.requires.durable.sure asked) in
    if_err (IsUnprinted told was now (line_of reply)) (IsStopped old.bank old.plan old.base request old new told was now) c.print_reply.result (λ h unprinted. unprinted_so request old new old.bank old.plan old.base told was now reply h done unprinted) c.print_reply.ensures.err

-- no more
