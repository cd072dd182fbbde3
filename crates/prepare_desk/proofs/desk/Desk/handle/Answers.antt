use Rattle.std.proofs.Common.{IfSome, Option, sym, ap, ◌∙◌, subst}
use Rattle.branch_bound.specs.Assembled.{Assembly}
use Rattle.exam_hall.specs.Known.{marked}
use Rattle.exam_hall.specs.Prepared.{IsPrepared}
use Rattle.exam_hall.specs.Used.{Uses}
use Rattle.prepare_desk.specs.Desks.{DeskPurpose, ready_for}
use Rattle.prepare_desk.proofs.desk.Desk.handle.Goals as goal

pub handle_prepared-requires-clause-prepared : goal.handle_prepared-requires-clause-prepared
handle_prepared-requires-clause-prepared g c =
    subst (λ (p : DeskPurpose). IfSome c.take-ready.result (IsPrepared p.bank p.plan p.base)) c.requires.purpose c.take-ready.ensures.prepared

pub returns-in-Answer-clause-used : goal.returns-in-Answer-clause-used
returns-in-Answer-clause-used g c =
    subst (λ (o : Option Assembly). IfSome o (Uses c.args.hall.now (marked c.args.pass.now) (marked c.handle_prepared.new.pass) c.args.request.now))
    (c.take-ready.ensures.ready ∙ sym (ap (ready_for c.args.self.now.results) c.in-Answer.is)) c.handle_prepared.ensures.used
