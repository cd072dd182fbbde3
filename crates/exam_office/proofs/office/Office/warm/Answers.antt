use Rattle.std.proofs.Common.{◌∙◌, IfSome, subst}
use Rattle.exam_office.specs.Running.{Running}
use Rattle.exam_office.specs.Warm.{IsWarm, FitsPlan}
use Rattle.exam_office.proofs.Warmed.{fits_found}
use Rattle.exam_office.proofs.office.Office.warm.Goals as goal

pub returns-in-Ok-clause-warm : goal.returns-in-Ok-clause-warm
returns-in-Ok-clause-warm g c =
    let o = c.self.inside in
    let k = c.self.invariant.1 in
    let s = c.args.session in
    let v = c.in-Ok.vector in
    subst (λ (r : Running g.row.D.Denot). IsWarm r s v) c.self.view_is
    (record { records = k.records; are = k.are; last = k.last; holds = k.holds; is = c.in-Ok.ensures ∙ k.each_is s })

pub returns-in-Ok-clause-sides : goal.returns-in-Ok-clause-sides
returns-in-Ok-clause-sides g c =
    let o = c.self.inside in
    let k = c.self.invariant.1 in
    let s = c.args.session in
    let v = c.in-Ok.vector in
    subst (λ (r : Running g.row.D.Denot). IfSome v (FitsPlan r.bank r.plan)) c.self.view_is
    (fits_found o.bank.now o.spec.now k.records s v (c.in-Ok.ensures ∙ k.each_is s))
