use Rattle.std.proofs.Common.{List, IfSome, subst}
use Rattle.history_model.specs.declared.entry.Entry.{Entry}
use Rattle.history_model.specs.Legality.{LegalRun}
use Rattle.branch_bound.specs.Assembled.{Assembly}
use Rattle.exam_hall.specs.Known.{HallKnown}
use Rattle.exam_hall.specs.Leading.{IsAsked}
use Rattle.exam_hall.specs.Prepared.{IsPrepared, FitsFor}
use Rattle.exam_hall.proofs.Fitting.{fitting_so}
use Rattle.exam_hall.proofs.hall.Hall.fitting.Goals as goal

pub returns-clause-fits : goal.returns-clause-fits
returns-clause-fits g c =
    let o = c.self.inside in
    let P = c.args.problem.now in
    let e = c.made_for.ensures in
    let h : HallKnown = record { lock = o.turn; bank = o.bank.now; plan = o.spec.now; base = o.base } in
    subst
    (λ (x : HallKnown). IfSome c.args.prepared (IsPrepared x.bank x.plan x.base) → IfSome c.made_for.result (λ (a : Assembly). (H : List Entry) → LegalRun x.bank x.plan H → IsAsked x.bank x.plan H P → FitsFor x.bank x.plan x.base H P a))
    c.self.view_is
    (λ prepared. fitting_so h c.self.invariant.0 P c.args.prepared c.made_for.result prepared e.made e.same e.promise)
    c.requires
