use Rattle.history_model.specs.declared.request.Reply.TheVariants as reply
use Rattle.exam_office.proofs.Asked.{durable_mended, then_asked, unmended_asked, settled_is_reply}
use Rattle.exam_office.proofs.alone.Alone.ask.Goals as goal

pub ask_surely-requires : goal.ask_surely-requires
ask_surely-requires g c =
    let old = c.args.self.now.office in
    let mid = c.settle.new.self in
    let e = c.settle.ensures in
    durable_mended old mid e.same e.frame e.moments c.in-Ok.ensures.sure c.in-Ok.ensures.images

pub returns-in-Ok-clause-asked : goal.returns-in-Ok-clause-asked
returns-in-Ok-clause-asked g c =
    let old = c.args.self.now.office in
    let mid = c.settle.new.self in
    let e = c.settle.ensures in
    then_asked old mid e.same e.frame e.moments c.in-Ok.ensures.sure c.in-Ok.ensures.mended c.args.request.now c.ask_surely.new.self c.ask_surely.result c.ask_surely.ensures

pub returns-in-Ok-clause-reply : goal.returns-in-Ok-clause-reply
returns-in-Ok-clause-reply g c = settled_is_reply c.ask_surely.result c.ask_surely.ensures.settled

pub returns-in-Err-clause-asked : goal.returns-in-Err-clause-asked
returns-in-Err-clause-asked g c =
    let old = c.args.self.now.office in
    let mid = c.settle.new.self in
    let e = c.settle.ensures in
    unmended_asked old mid e.same e.frame e.moments c.args.request.now c.in-Err.refusal c.in-Err.ensures.refused

pub returns-in-Err-clause-reply : goal.returns-in-Err-clause-reply
returns-in-Err-clause-reply g c =
    let old = c.args.self.now.office in
    let mid = c.settle.new.self in
    let e = c.settle.ensures in
    let is = unmended_asked old mid e.same e.frame e.moments c.args.request.now c.in-Err.refusal c.in-Err.ensures.refused in
    settled_is_reply (reply.Refused c.in-Err.refusal) is.settled
