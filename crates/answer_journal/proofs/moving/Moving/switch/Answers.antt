use Rattle.std.proofs.Common.{inl, List, ℕ, [], ◌∷◌, sym, ◌∙◌, arith, length-append, subst}
use Rattle.answer_journal.specs.Moving.{IsMovingWith}
use Rattle.answer_journal.specs.Standing.{moved_records}
use Rattle.answer_journal.proofs.MovingMoments.{waiting_size}
use Rattle.answer_journal.proofs.SwitchMoments.{both_then, closed_then, not_err, switched_gives, switched_size, written_size}
use Rattle.answer_journal.proofs.moving.Moving.switch.Goals as goal

pub write_rest-requires-clause-moving : goal.write_rest-requires-clause-moving
write_rest-requires-clause-moving g c =
    let self = c.self.inside in
    let moving = rw (← c.self.view_is) at c.requires in
    λ told. let some = moving told in
    (some.0, some.1, self.gate, subst (λ (l : List ℕ). IsMovingWith some.0 some.1 (g.D.Disk.content self.disk) l (g.D.Disk.accounts self.disk) self.gate self.end) (sym c.deref.ensures.value) some.2, λ before file u v. some.3 before file u (inl v))

pub open_switch-requires : goal.open_switch-requires
open_switch-requires g c =
    let self = c.self.inside in
    let done = sym c.is_err.ensures.value ∙ c.if-is_err.false in
    let moving = rw (← c.self.view_is) at c.requires in
    record {
      whole = λ told1.
          let told = sym c.write_rest.ensures.frame.tells ∙ told1 in
          let some = moving told in
          let there = subst (λ (l : List ℕ). IsMovingWith some.0 some.1 (g.D.Disk.content self.disk) l (g.D.Disk.accounts self.disk) self.gate self.end) (sym c.deref.ensures.value) some.2 in
          (some.0, some.1, not_err _ done c.write_rest.ensures.whole told some.0 some.1 _ there, some.3);
    }

pub returns-then-is_err-clause-moments_err : goal.returns-then-is_err-clause-moments_err
returns-then-is_err-clause-moments_err g c =
    let self = c.self.inside in
    rw (← c.self.view_is)
    (λ told ps qs m.
    closed_then ps qs _ _ (c.write_rest.ensures.moments told ps qs _
    (subst (λ (l : List ℕ). IsMovingWith ps qs (g.D.Disk.content self.disk) l (g.D.Disk.accounts self.disk) self.gate self.end) (sym c.deref.ensures.value) m)))

pub returns-in-Ok-clause-moved : goal.returns-in-Ok-clause-moved
returns-in-Ok-clause-moved g c =
    let self = c.self.inside in
    let done = sym c.is_err.ensures.value ∙ c.if-is_err.false in
    rw (← c.self.view_is)
    (λ told ps qs m.
    let w = not_err _ done c.write_rest.ensures.whole told ps qs _
    (subst (λ (l : List ℕ). IsMovingWith ps qs (g.D.Disk.content self.disk) l (g.D.Disk.accounts self.disk) self.gate self.end) (sym c.deref.ensures.value) m) in
    switched_gives ps qs _ _ _ w _ (c.in-Ok.ensures.content (c.write_rest.ensures.frame.tells ∙ told) ps qs w))

pub returns-in-Ok-clause-content : goal.returns-in-Ok-clause-content
returns-in-Ok-clause-content g c =
    let self = c.self.inside in
    let done = sym c.is_err.ensures.value ∙ c.if-is_err.false in
    rw (← c.self.view_is)
    (λ told ps qs m.
    let w = not_err _ done c.write_rest.ensures.whole told ps qs _
    (subst (λ (l : List ℕ). IsMovingWith ps qs (g.D.Disk.content self.disk) l (g.D.Disk.accounts self.disk) self.gate self.end) (sym c.deref.ensures.value) m) in
    c.in-Ok.ensures.content (c.write_rest.ensures.frame.tells ∙ told) ps qs w)

pub returns-in-Ok-clause-length : goal.returns-in-Ok-clause-length
returns-in-Ok-clause-length g c =
    let self = c.self.inside in
    let done = sym c.is_err.ensures.value ∙ c.if-is_err.false in
    let moving = rw (← c.self.view_is) at c.requires in
    rw (← c.self.view_is)
    (λ told.
    let some = moving told in
    let w = not_err _ done c.write_rest.ensures.whole told some.0 some.1 _
    (subst (λ (l : List ℕ). IsMovingWith some.0 some.1 (g.D.Disk.content self.disk) l (g.D.Disk.accounts self.disk) self.gate self.end) (sym c.deref.ensures.value) some.2) in
    let same = switched_size some.0 some.1 _ _ _ w _ (c.in-Ok.ensures.content (c.write_rest.ensures.frame.tells ∙ told) some.0 some.1 w) in
    omega (arith, same, written_size some.0 some.1 _ _ _ w, length-append (moved_records some.1) (0 ∷ []), waiting_size some.0 some.1 _ _ _ _ _ some.2))

pub returns-in-Ok-clause-moments : goal.returns-in-Ok-clause-moments
returns-in-Ok-clause-moments g c =
    let self = c.self.inside in
    let done = sym c.is_err.ensures.value ∙ c.if-is_err.false in
    rw (← c.self.view_is)
    (λ told ps qs m.
    let there = subst (λ (l : List ℕ). IsMovingWith ps qs (g.D.Disk.content self.disk) l (g.D.Disk.accounts self.disk) self.gate self.end) (sym c.deref.ensures.value) m in
    let w = not_err _ done c.write_rest.ensures.whole told ps qs _ there in
    both_then ps qs _ _ _ (c.write_rest.ensures.moments told ps qs _ there) (c.open_switch.ensures.moments (c.write_rest.ensures.frame.tells ∙ told) ps qs w))

pub returns-clause-moments_err : goal.returns-clause-moments_err
returns-clause-moments_err g c =
    let self = c.self.inside in
    let done = sym c.is_err.ensures.value ∙ c.if-is_err.false in
    rw (← c.self.view_is)
    (λ told ps qs m.
    let there = subst (λ (l : List ℕ). IsMovingWith ps qs (g.D.Disk.content self.disk) l (g.D.Disk.accounts self.disk) self.gate self.end) (sym c.deref.ensures.value) m in
    let w = not_err _ done c.write_rest.ensures.whole told ps qs _ there in
    both_then ps qs _ _ _ (c.write_rest.ensures.moments told ps qs _ there) (c.open_switch.ensures.moments (c.write_rest.ensures.frame.tells ∙ told) ps qs w))

pub returns-clause-left_err : goal.returns-clause-left_err
returns-clause-left_err g c = rw (← c.self.view_is) (λ told. c.open_switch.ensures.left (c.write_rest.ensures.frame.tells ∙ told))
