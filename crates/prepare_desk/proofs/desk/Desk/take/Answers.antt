use Rattle.std.proofs.Common.{Contains, Some, None, sym, ap, ◌∙◌, subst}
use Rattle.lru.specs.LruCache.{LruCache}
use Rattle.exam_hall.specs.Prepared.{IsPrepared}
use Rattle.prepare_desk.specs.Desks.{DeskKnown, IsReadyFor, made_of, put_for, with_response, without}
use Rattle.prepare_desk.specs.declared.key.Key.{Key}
use Rattle.prepare_desk.specs.declared.desk.Ready.{Ready}
use Rattle.prepare_desk.specs.declared.desk.Ready.TheVariants.{Made, SameAs}
use Rattle.prepare_desk.proofs.Staying.{found_ready, left_ready, known, ready_found, left_found}
use Rattle.prepare_desk.proofs.desk.Desk.take.Goals as goal

pub invariant_of-self : goal.invariant_of-self
invariant_of-self c = λ r there.
    left_ready c.self.inside.purpose _ c.self.inside.results.entries c.self.invariant r
    (subst (λ (x : LruCache Key Ready). Contains x.entries r) c.pop.ensures.entries there)

pub invariant_of-self-in-Some-SameAs : goal.invariant_of-self-in-Some-SameAs
invariant_of-self-in-Some-SameAs c = λ r there.
    left_ready c.self.inside.purpose _ c.self.inside.results.entries c.self.invariant r
    (subst (λ (x : LruCache Key Ready). Contains x.entries r) c.pop.ensures.entries there)

pub invariant_of-self-in-None : goal.invariant_of-self-in-None
invariant_of-self-in-None c = λ r there.
    left_ready c.self.inside.purpose _ c.self.inside.results.entries c.self.invariant r
    (subst (λ (x : LruCache Key Ready). Contains x.entries r) c.pop.ensures.entries there)

pub returns-in-Some-Made-clause-prepared : goal.returns-in-Some-Made-clause-prepared
returns-in-Some-Made-clause-prepared c =
    subst (λ (d : DeskKnown). IsPrepared d.purpose.bank d.purpose.plan d.purpose.base c.in-Some-Made.made) c.self.view_is
    (subst (λ (x : Ready). IsReadyFor c.self.inside.purpose x) c.in-Some-Made.field-0-is
    (found_ready c.self.inside.purpose _ c.self.inside.results.entries c.self.invariant c.in-Some-Made.field-0 (sym c.in-Some-Made.ensures.value)))

pub returns-in-Some-Made-clause-ready : goal.returns-in-Some-Made-clause-ready
returns-in-Some-Made-clause-ready c =
    ready_found c.self.inside.purpose c.self.inside.results c.args.key c.args.self.now (Some (Made c.in-Some-Made.made)) c.self.view_is
    (sym c.in-Some-Made.ensures.value ∙ ap Some c.in-Some-Made.field-0-is)

pub returns-in-Some-Made-clause-left : goal.returns-in-Some-Made-clause-left
returns-in-Some-Made-clause-left c =
    ap (known c.self.inside.purpose) c.pop.ensures.entries
    ∙ left_found c.self.inside.purpose c.self.inside.results c.args.key c.args.self.now (Some (Made c.in-Some-Made.made)) c.self.view_is
    (sym c.in-Some-Made.ensures.value ∙ ap Some c.in-Some-Made.field-0-is)

pub returns-in-Some-SameAs-clause-ready : goal.returns-in-Some-SameAs-clause-ready
returns-in-Some-SameAs-clause-ready c =
    c.take_made.ensures.made
    ∙ (ap (λ (x : LruCache Key Ready). made_of (put_for x.entries (with_response c.args.key c.in-Some-SameAs.response))) c.pop.ensures.entries
    ∙ ready_found c.self.inside.purpose c.self.inside.results c.args.key c.args.self.now (Some (SameAs c.in-Some-SameAs.response)) c.self.view_is
    (sym c.in-Some-SameAs.ensures.value ∙ ap Some c.in-Some-SameAs.field-0-is))

pub returns-in-Some-SameAs-clause-left : goal.returns-in-Some-SameAs-clause-left
returns-in-Some-SameAs-clause-left c =
    c.take_made.ensures.left
    ∙ (ap (λ (x : LruCache Key Ready). record (known c.self.inside.purpose x) { results = without x.entries (with_response c.args.key c.in-Some-SameAs.response) }) c.pop.ensures.entries
    ∙ left_found c.self.inside.purpose c.self.inside.results c.args.key c.args.self.now (Some (SameAs c.in-Some-SameAs.response)) c.self.view_is
    (sym c.in-Some-SameAs.ensures.value ∙ ap Some c.in-Some-SameAs.field-0-is))

pub returns-in-None-clause-ready : goal.returns-in-None-clause-ready
returns-in-None-clause-ready c =
    ready_found c.self.inside.purpose c.self.inside.results c.args.key c.args.self.now None c.self.view_is (sym c.in-None.ensures.value)

pub returns-in-None-clause-left : goal.returns-in-None-clause-left
returns-in-None-clause-left c =
    ap (known c.self.inside.purpose) c.pop.ensures.entries
    ∙ left_found c.self.inside.purpose c.self.inside.results c.args.key c.args.self.now None c.self.view_is (sym c.in-None.ensures.value)
