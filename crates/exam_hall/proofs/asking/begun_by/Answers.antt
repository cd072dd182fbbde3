use Rattle.exam_office.specs.Marks.{history}
use Rattle.exam_hall.proofs.Turning.{waits_at, done_at}
use Rattle.exam_hall.proofs.asking.begun_by.Goals as goal

pub returns-in-Some : goal.returns-in-Some
returns-in-Some g c =
    let now = c.args.office.now in
    let e = c.in-Some.ensures in
    waits_at now.bank now.plan (history now.marks) c.args.reply c.in-At.session c.in-At.place c.in-At.fresh c.in-Some.problem c.in-At.is e.problem e.well_made c.vector_for-warm.result c.vector_for-warm.ensures

pub returns-in-None : goal.returns-in-None
returns-in-None g c =
    let now = c.args.office.now in
    done_at now.bank now.plan (history now.marks) c.args.reply c.in-At.session c.in-At.place c.in-At.fresh c.in-At.is c.requires c.in-None.ensures.none
