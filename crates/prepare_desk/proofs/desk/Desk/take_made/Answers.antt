use Rattle.std.proofs.Common.{◌≡◌, IfSome, Contains, Option, Some, None, sym, ap, ◌∙◌, subst}
use Rattle.lru.specs.LruCache.{LruCache}
use Rattle.branch_bound.specs.Assembled.{Assembly}
use Rattle.exam_hall.specs.Prepared.{IsPrepared}
use Rattle.prepare_desk.specs.Desks.{DeskKnown, IsReadyFor, without}
use Rattle.prepare_desk.specs.declared.key.Key.{Key}
use Rattle.prepare_desk.specs.declared.desk.Ready.{Ready}
use Rattle.prepare_desk.specs.declared.desk.Ready.TheVariants.{Made, SameAs}
use Rattle.prepare_desk.proofs.Staying.{found_ready, left_ready, known, made_found}
use Rattle.prepare_desk.proofs.desk.Desk.take_made.Goals as goal
use Rattle.prepare_desk.proofs.desk.Desk.take_made.Goals.{in-Some-Made, in-Some-SameAs, in-None}

pub invariant_of-self : goal.invariant_of-self
invariant_of-self c = λ r there.
    left_ready c.self.inside.purpose _ c.self.inside.results.entries c.self.invariant r
    (subst (λ (x : LruCache Key Ready). Contains x.entries r) c.pop.ensures.entries there)

pub returns-clause-prepared : goal.returns-clause-prepared
returns-clause-prepared c =
    let Prepared : Option Assembly → Type 0 = λ o. IfSome o (IsPrepared c.args.self.now.purpose.bank c.args.self.now.purpose.plan c.args.self.now.purpose.base) in
    elim c.match-pop.branch [
      | in-Some-Made w ↦ subst Prepared (sym w.result-is)
          (subst (λ (d : DeskKnown). IsPrepared d.purpose.bank d.purpose.plan d.purpose.base w.in-Some-Made.made) c.self.view_is
          (subst (λ (x : Ready). IsReadyFor c.self.inside.purpose x) w.in-Some-Made.field-0-is
          (found_ready c.self.inside.purpose _ c.self.inside.results.entries c.self.invariant w.in-Some-Made.field-0 (sym w.in-Some-Made.ensures.value))))
      | in-Some-SameAs w ↦ subst Prepared (sym w.result-is) tt
      | in-None w ↦ subst Prepared (sym w.result-is) tt
    ]

pub returns-clause-made : goal.returns-clause-made
returns-clause-made c =
    let found = made_found c.self.inside.purpose c.self.inside.results c.args.key c.args.self.now in
    elim c.match-pop.branch [
      | in-Some-Made w ↦ w.result-is ∙ found (Some (Made w.in-Some-Made.made)) c.self.view_is (sym w.in-Some-Made.ensures.value ∙ ap Some w.in-Some-Made.field-0-is)
      | in-Some-SameAs w ↦ w.result-is ∙ found (Some (SameAs w.in-Some-SameAs.field-0-0)) c.self.view_is (sym w.in-Some-SameAs.ensures.value ∙ ap Some w.in-Some-SameAs.field-0-is)
      | in-None w ↦ w.result-is ∙ found None c.self.view_is (sym w.in-None.ensures.value)
    ]

pub returns-clause-left : goal.returns-clause-left
returns-clause-left c =
    subst (λ (d : DeskKnown). known c.self.inside.purpose c.pop.new.self ≡ record d { results = without d.results c.args.key }) c.self.view_is
    (ap (known c.self.inside.purpose) c.pop.ensures.entries)
