use Rattle.exam_office.proofs.Probed.{found_so, not_found, why_not}
use Rattle.exam_office.proofs.office.Office.probe.Goals as goal

pub returns-in-Ok-clause-probed : goal.returns-in-Ok-clause-probed
returns-in-Ok-clause-probed g c =
    let old = c.args.self.now in
    let mid = c.settle.new.self in
    let e = c.settle.ensures in
    found_so old mid e.same e.frame e.moments c.in-Ok.ensures.sure c.in-Ok.ensures.mended c.in-Ok.ensures.images c.health.result c.health.ensures

pub returns-in-Err-clause-probed : goal.returns-in-Err-clause-probed
returns-in-Err-clause-probed g c =
    let old = c.args.self.now in
    let mid = c.settle.new.self in
    let e = c.settle.ensures in
    not_found old mid e.same e.frame e.moments c.in-Err.refusal c.in-Err.ensures.refused

pub returns-in-Err-clause-refusal : goal.returns-in-Err-clause-refusal
returns-in-Err-clause-refusal g c =
    let old = c.args.self.now in
    let mid = c.settle.new.self in
    let e = c.settle.ensures in
    why_not old mid e.same e.frame e.moments c.in-Err.refusal c.in-Err.ensures.refused
