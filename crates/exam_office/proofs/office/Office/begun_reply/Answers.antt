use Rattle.std.proofs.Common.{◌≡◌, true, IfOk, Result, subst}
use Rattle.history_model.specs.declared.refusal.Refusal.{Refusal}
use Rattle.history_model.specs.Entries.{is_started}
use Rattle.exam_office.specs.declared.begun.Begun.{Begun}
use Rattle.exam_office.specs.Marks.{history}
use Rattle.exam_office.proofs.Asked.{begun_is_there}
use Rattle.exam_office.proofs.office.Office.begun_reply.Goals as goal

pub unreachable-requires : goal.unreachable-requires
unreachable-requires g c =
    let H = history c.args.self.now.marks in
    begun_is_there c.in-Ok.begun.session c.args.self.now c.in-Err-look.field-0
    (subst (λ (r : Result Begun Refusal). IfOk r (λ b. is_started H b.session ≡ true)) c.in-Ok.is c.requires)
    c.in-Err-look.ensures.refused
