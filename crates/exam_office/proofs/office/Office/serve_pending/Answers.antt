use Rattle.std.proofs.Common.{◌≡◌, ◌∙◌, None, Some, ap, subst}
use Rattle.form_model.specs.Validity.{IsPlanFor}
use Rattle.history_model.specs.declared.place.Place.{Place}
use Rattle.history_model.specs.declared.place.Place.TheVariants.{Pending}
use Rattle.history_model.specs.Places.{place}
use Rattle.exam_office.specs.Calls.{refused_with}
use Rattle.exam_office.specs.Marks.{history}
use Rattle.exam_office.specs.Running.{Running, handed}
use Rattle.exam_office.specs.Serving.{IsTried}
use Rattle.exam_office.proofs.Advancing.{stopped_first, served_first, first_steps, IsAsideFirst, aside_first, tried_twice, two_steps, settled_twice, settled_unless}
use Rattle.exam_office.proofs.Asked.{durable_on}
use Rattle.exam_office.proofs.Committed.{plan_in}
use Rattle.exam_office.proofs.office.Office.serve_pending.Goals as goal

pub try_to_serve-requires-in-Pending-clause-pending : goal.try_to_serve-requires-in-Pending-clause-pending
try_to_serve-requires-in-Pending-clause-pending g c =
    let old = c.args.self.now in
    let s = c.args.session in
    let waits = c.requires.pending in
    let mid = c.try_to_serve.new.self in
    let steps = c.try_to_serve.ensures.steps in
    let k = c.in-Pending.field-0 in
    let stands : place mid.plan (history mid.marks) s ≡ Some (Pending k) = c.in-Ok.ensures.at ∙ ap (λ (p : Place). Some p) c.in-Pending.is in
    let first : IsTried old.bank old.plan old.base s old mid None = c.in-Ok.ensures.tried in
    let a : IsAsideFirst s old mid waits.0 waits.1 = aside_first s old mid waits.0 waits.1 k steps.same stands first in
    (k, stands)

pub try_to_serve-requires-in-Pending-clause-durable : goal.try_to_serve-requires-in-Pending-clause-durable
try_to_serve-requires-in-Pending-clause-durable g c =
    let old = c.args.self.now in
    let s = c.args.session in
    let waits = c.requires.pending in
    let mid = c.try_to_serve.new.self in
    let steps = c.try_to_serve.ensures.steps in
    let k = c.in-Pending.field-0 in
    let stands : place mid.plan (history mid.marks) s ≡ Some (Pending k) = c.in-Ok.ensures.at ∙ ap (λ (p : Place). Some p) c.in-Pending.is in
    let first : IsTried old.bank old.plan old.base s old mid None = c.in-Ok.ensures.tried in
    let a : IsAsideFirst s old mid waits.0 waits.1 = aside_first s old mid waits.0 waits.1 k steps.same stands first in
    durable_on old mid steps.same a.durable

pub returns-in-Pending-clause-steps : goal.returns-in-Pending-clause-steps
returns-in-Pending-clause-steps g c =
    let old = c.args.self.now in
    let s = c.args.session in
    let waits = c.requires.pending in
    let mid = c.try_to_serve.new.self in
    let steps = c.try_to_serve.ensures.steps in
    let k = c.in-Pending.field-0 in
    let stands : place mid.plan (history mid.marks) s ≡ Some (Pending k) = c.in-Ok.ensures.at ∙ ap (λ (p : Place). Some p) c.in-Pending.is in
    let first : IsTried old.bank old.plan old.base s old mid None = c.in-Ok.ensures.tried in
    let a : IsAsideFirst s old mid waits.0 waits.1 = aside_first s old mid waits.0 waits.1 k steps.same stands first in
    let new = c.try_to_serve-in-Pending.new.self in
    let o = c.self.inside in
    let fits : IsPlanFor old.bank old.plan =
    subst (λ (r : Running g.row.D.Denot). IsPlanFor r.bank r.plan) c.self.view_is
    (plan_in o.bank.now o.spec.now o.base o.book o.journal o.marks o.doubt (handed g.D.Disk.content g.D.Disk.accounts g.D.Disk.faults o.opened.value) c.self.invariant.0 c.entries.ensures.examination) in
    two_steps s old mid waits.0 waits.1 fits new a steps.frame.grows steps.same steps c.try_to_serve-in-Pending.ensures.steps

pub returns-in-Pending-clause-served : goal.returns-in-Pending-clause-served
returns-in-Pending-clause-served g c =
    let old = c.args.self.now in
    let s = c.args.session in
    let waits = c.requires.pending in
    let mid = c.try_to_serve.new.self in
    let steps = c.try_to_serve.ensures.steps in
    let k = c.in-Pending.field-0 in
    let stands : place mid.plan (history mid.marks) s ≡ Some (Pending k) = c.in-Ok.ensures.at ∙ ap (λ (p : Place). Some p) c.in-Pending.is in
    let first : IsTried old.bank old.plan old.base s old mid None = c.in-Ok.ensures.tried in
    let a : IsAsideFirst s old mid waits.0 waits.1 = aside_first s old mid waits.0 waits.1 k steps.same stands first in
    let new = c.try_to_serve-in-Pending.new.self in
    let o = c.self.inside in
    let fits : IsPlanFor old.bank old.plan =
    subst (λ (r : Running g.row.D.Denot). IsPlanFor r.bank r.plan) c.self.view_is
    (plan_in o.bank.now o.spec.now o.base o.book o.journal o.marks o.doubt (handed g.D.Disk.content g.D.Disk.accounts g.D.Disk.faults o.opened.value) c.self.invariant.0 c.entries.ensures.examination) in
    tried_twice s old mid waits.0 waits.1 fits new a steps.frame.grows steps.same (refused_with c.try_to_serve-in-Pending.result) c.try_to_serve-in-Pending.ensures.tried

pub returns-in-Pending-clause-settled : goal.returns-in-Pending-clause-settled
returns-in-Pending-clause-settled g c =
    let old = c.args.self.now in
    let s = c.args.session in
    let waits = c.requires.pending in
    let mid = c.try_to_serve.new.self in
    let steps = c.try_to_serve.ensures.steps in
    let k = c.in-Pending.field-0 in
    let stands : place mid.plan (history mid.marks) s ≡ Some (Pending k) = c.in-Ok.ensures.at ∙ ap (λ (p : Place). Some p) c.in-Pending.is in
    let first : IsTried old.bank old.plan old.base s old mid None = c.in-Ok.ensures.tried in
    let a : IsAsideFirst s old mid waits.0 waits.1 = aside_first s old mid waits.0 waits.1 k steps.same stands first in
    let new = c.try_to_serve-in-Pending.new.self in
    let o = c.self.inside in
    let fits : IsPlanFor old.bank old.plan =
    subst (λ (r : Running g.row.D.Denot). IsPlanFor r.bank r.plan) c.self.view_is
    (plan_in o.bank.now o.spec.now o.base o.book o.journal o.marks o.doubt (handed g.D.Disk.content g.D.Disk.accounts g.D.Disk.faults o.opened.value) c.self.invariant.0 c.entries.ensures.examination) in
    let then = c.try_to_serve-in-Pending.ensures in
    settled_twice s old mid waits.0 waits.1 fits new a steps.frame.grows c.try_to_serve-in-Pending.result steps.same then.steps.same then.tried then.at

pub returns-in_default-clause-steps : goal.returns-in_default-clause-steps
returns-in_default-clause-steps g c =
    let old = c.args.self.now in
    let s = c.args.session in
    let waits = c.requires.pending in
    first_steps s old c.try_to_serve.new.self waits.0 waits.1 c.try_to_serve.ensures.steps

pub returns-in_default-clause-served : goal.returns-in_default-clause-served
returns-in_default-clause-served g c =
    let old = c.args.self.now in
    let s = c.args.session in
    let waits = c.requires.pending in
    let at = c.in-Ok.at in
    served_first s old c.try_to_serve.new.self waits.0 waits.1 at c.in-Ok.ensures.at (settled_unless at c.in_default.not-Pending) c.try_to_serve.ensures.steps.same c.in-Ok.ensures.tried

pub returns-in_default-clause-settled : goal.returns-in_default-clause-settled
returns-in_default-clause-settled g c = settled_unless c.in-Ok.at c.in_default.not-Pending

pub returns-in-Err-clause-steps : goal.returns-in-Err-clause-steps
returns-in-Err-clause-steps g c =
    let old = c.args.self.now in
    let s = c.args.session in
    let waits = c.requires.pending in
    first_steps s old c.try_to_serve.new.self waits.0 waits.1 c.try_to_serve.ensures.steps

pub returns-in-Err-clause-served : goal.returns-in-Err-clause-served
returns-in-Err-clause-served g c =
    let old = c.args.self.now in
    let s = c.args.session in
    let waits = c.requires.pending in
    stopped_first s old c.try_to_serve.new.self waits.0 waits.1 c.in-Err.refusal c.in-Err.ensures.tried
