use Rattle.std.proofs.Common.{◌≡◌, List, IfOk, subst}
use Rattle.constraint_model.specs.Views.{problem_of}
use Rattle.history_model.specs.declared.entry.Entry.{Entry}
use Rattle.history_model.specs.Legality.{LegalRun}
use Rattle.history_model.specs.SessionProblems.{IsProblemOf}
use Rattle.branch_bound.specs.Assembled.{Assembly}
use Rattle.exam_office.specs.Serving.{IsAssembledFor}
use Rattle.exam_hall.specs.Known.{HallKnown}
use Rattle.exam_hall.specs.Prepared.{IsPrepared}
use Rattle.exam_hall.proofs.Fitting.{made_prepared}
use Rattle.exam_hall.proofs.Served.{assembled_result}
use Rattle.exam_hall.proofs.hall.Hall.assembled.Goals as goal

pub returns-clause-assembled : goal.returns-clause-assembled
returns-clause-assembled g c =
    let o = c.self.inside in
    let p = c.args.problem.now in
    let e = c.assemble_from.ensures in
    let h : HallKnown = record { lock = o.turn; bank = o.bank.now; plan = o.spec.now; base = o.base } in
    subst
    (λ (x : HallKnown). IfOk c.assemble_from.result (λ (a : Assembly). (H : List Entry) → LegalRun x.bank x.plan H → IsProblemOf x.bank x.plan H p.session p.step (problem_of p) → IsAssembledFor x.bank x.plan x.base H p.session a))
    c.self.view_is
    (assembled_result h c.self.invariant.0 p c.again.result c.again.ensures c.budget.result c.budget.ensures c.assemble_from.result e.problem e.budget e.assembly)

pub returns-clause-prepared : goal.returns-clause-prepared
returns-clause-prepared g c =
    let o = c.self.inside in
    let p = c.args.problem.now in
    let e = c.assemble_from.ensures in
    let h : HallKnown = record { lock = o.turn; bank = o.bank.now; plan = o.spec.now; base = o.base } in
    subst
    (λ (x : HallKnown). IfOk c.assemble_from.result (λ (a : Assembly). p.bank.now ≡ x.bank → p.spec.now ≡ x.plan → IsPrepared x.bank x.plan x.base a))
    c.self.view_is
    (made_prepared h p c.again.result c.again.ensures c.budget.result c.budget.ensures c.assemble_from.result e.problem e.budget e.hint)
