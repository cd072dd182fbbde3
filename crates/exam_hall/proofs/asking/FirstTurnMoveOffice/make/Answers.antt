use Rattle.exam_hall.specs.Turns.{Led}
use Rattle.exam_hall.proofs.Leading.{led_by}
use Rattle.exam_hall.proofs.Turning.{grows_by, first_made, placed_reply, sought_now}
use Rattle.exam_hall.proofs.asking.FirstTurnMoveOffice.make.Goals as goal

pub returns-clause-grows : goal.returns-clause-grows
returns-clause-grows g c =
    let old = c.args.value.now in
    let new = c.lead-reply.new.self in
    let q = c.args.self.now.request in
    let led : Led q old new c.lead-reply.result = led_by old new c.keeps.ensures.doubt c.keeps-2.ensures.run q c.args.self.now.witness c.lead-reply.result c.lead-reply.ensures in
    grows_by old new led.adds

pub returns-clause-makes : goal.returns-clause-makes
returns-clause-makes g c =
    let old = c.args.value.now in
    let new = c.lead-reply.new.self in
    let q = c.args.self.now.request in
    let led : Led q old new c.lead-reply.result = led_by old new c.keeps.ensures.doubt c.keeps-2.ensures.run q c.args.self.now.witness c.lead-reply.result c.lead-reply.ensures in
    first_made old new q c.lead-reply.result c.begun_by.result led c.keeps-2.ensures.run c.begun_by.ensures

pub begun_by-requires : goal.begun_by-requires
begun_by-requires g c =
    let old = c.args.value.now in
    let new = c.lead-reply.new.self in
    let q = c.args.self.now.request in
    let led : Led q old new c.lead-reply.result = led_by old new c.keeps.ensures.doubt c.keeps-2.ensures.run q c.args.self.now.witness c.lead-reply.result c.lead-reply.ensures in
    placed_reply old new q c.lead-reply.result led

pub lead-reply-requires : goal.lead-reply-requires
lead-reply-requires g c = sought_now c.args.value.now c.args.self.now.request c.args.self.now.witness c.requires
