use Rattle.std.proofs.Common.{◌+◌, [], List, ℕ, sym, ◌∙◌, subst}
use Rattle.exam_edge.specs.Images.{Allows, AtEachMoment}
use Rattle.answer_journal.specs.Moving.{IsMoving, IsMovingWith, IsUnmoved}
use Rattle.answer_journal.specs.Versions.{counted_in}
use Rattle.answer_journal.proofs.Finishing.{list_first, only_unmoved, rest_first, same_unmoved, then_unmoved, unmoved_first, unmoved_itself, unmoved_moments}
use Rattle.answer_journal.proofs.MovingMoments.{none_waits}
use Rattle.answer_journal.proofs.SwitchMoments.{not_err}
use Rattle.answer_journal.proofs.Walking.{not_yet, ends_at_last}
use Rattle.answer_journal.proofs.walk.Walk.start_move.Goals as goal

pub returns-then-at-extent-clause-why : goal.returns-then-at-extent-clause-why
returns-then-at-extent-clause-why g c =
    let w = c.self.inside in
    let all = rw (← c.self.view_is) at c.requires.all in
    rw (← c.self.view_is)
    (λ told. absurd (not_yet (g.D.Disk.tells w.disk) (g.D.Disk.content w.disk) (g.D.Disk.accounts w.disk) w.limit w.extent w.at w.passed w.last c.self.invariant told c.if-at-extent.true (all told)))

pub returns-then-at-extent-clause-settled_err : goal.returns-then-at-extent-clause-settled_err
returns-then-at-extent-clause-settled_err g c =
    let w = c.self.inside in
    let all = rw (← c.self.view_is) at c.requires.all in
    rw (← c.self.view_is)
    (λ told. absurd (not_yet (g.D.Disk.tells w.disk) (g.D.Disk.content w.disk) (g.D.Disk.accounts w.disk) w.limit w.extent w.at w.passed w.last c.self.invariant told c.if-at-extent.true (all told)))

pub finish_file-requires-clause-last : goal.finish_file-requires-clause-last
finish_file-requires-clause-last g c =
    let w = c.self.inside in
    let all = rw (← c.self.view_is) at c.requires.all in
    λ told. ends_at_last (g.D.Disk.tells w.disk) (g.D.Disk.content w.disk) (g.D.Disk.accounts w.disk) w.limit w.extent w.at w.passed w.last c.self.invariant told (all told)

pub returns-then-is_err-clause-moments_err : goal.returns-then-is_err-clause-moments_err
returns-then-is_err-clause-moments_err g c =
    let w = c.self.inside in
    let one = rw (← c.self.view_is) at c.requires.version in
    rw (← c.self.view_is)
    (λ told. unmoved_moments (g.D.Disk.tells w.disk) (g.D.Disk.content w.disk) (g.D.Disk.accounts w.disk) w.extent c.self.invariant.opening.extent_is told one
    (g.D.Disk.accounts w.disk) (g.D.Disk.accounts c.finish_file.new.disk) (c.finish_file.ensures.moments told))

pub returns-then-is_err-clause-settled_err : goal.returns-then-is_err-clause-settled_err
returns-then-is_err-clause-settled_err g c =
    let w = c.self.inside in
    let one = rw (← c.self.view_is) at c.requires.version in
    rw (← c.self.view_is)
    (λ told images.
    let x = c.self.invariant.opening.extent_is in
    only_unmoved (counted_in (g.D.Disk.content w.disk)).payloads (g.D.Disk.content w.disk) (g.D.Disk.accounts w.disk) (g.D.Disk.accounts c.finish_file.new.disk)
    (unmoved_itself (g.D.Disk.tells w.disk) (g.D.Disk.content w.disk) (g.D.Disk.accounts w.disk) w.extent x told one)
    (unmoved_moments (g.D.Disk.tells w.disk) (g.D.Disk.content w.disk) (g.D.Disk.accounts w.disk) w.extent x told one
    (g.D.Disk.accounts w.disk) (g.D.Disk.accounts c.finish_file.new.disk) (c.finish_file.ensures.moments told)) images)

pub write_mark-requires-clause-rest : goal.write_mark-requires-clause-rest
write_mark-requires-clause-rest g c =
    let w = c.self.inside in
    let one = rw (← c.self.view_is) at c.requires.version in
    let new = c.finish_file.new.disk in
    let done = sym c.is_err.ensures.value ∙ c.if-is_err.false in
    λ told1.
    let told = sym c.finish_file.ensures.frame.tells ∙ told1 in
    let x = c.self.invariant.opening.extent_is in
    let rest = not_err _ done c.finish_file.ensures.rest told in
    let keeps = not_err _ done c.finish_file.ensures.keeps told in (
      rest_first (g.D.Disk.tells w.disk) (g.D.Disk.content w.disk) (g.D.Disk.accounts w.disk) w.extent x told one (g.D.Disk.content new) (g.D.Disk.accounts new) (w.extent.end + 1) rest keeps,
      unmoved_first (g.D.Disk.tells w.disk) (g.D.Disk.content w.disk) (g.D.Disk.accounts w.disk) w.extent x told one (g.D.Disk.content new) (g.D.Disk.accounts new) (w.extent.end + 1) rest keeps,
    )

pub returns-in-Ok-clause-moving : goal.returns-in-Ok-clause-moving
returns-in-Ok-clause-moving g c =
    let w = c.self.inside in
    let one = rw (← c.self.view_is) at c.requires.version in
    let new = c.finish_file.new.disk in
    let done = sym c.is_err.ensures.value ∙ c.if-is_err.false in
    rw (← c.self.view_is)
    (λ told.
    let x = c.self.invariant.opening.extent_is in
    let rest = not_err _ done c.finish_file.ensures.rest told in
    let keeps = not_err _ done c.finish_file.ensures.keeps told in
    let list = list_first (g.D.Disk.tells w.disk) (g.D.Disk.content w.disk) (g.D.Disk.accounts w.disk) w.extent x told one (g.D.Disk.content new) (g.D.Disk.accounts new) (w.extent.end + 1) rest keeps in
    let marked = c.write_mark.new.disk in
    let ps = (counted_in (g.D.Disk.content w.disk)).payloads in
    let moving = subst (λ (l : List (List ℕ)). IsMoving l [] (g.D.Disk.content marked) (g.D.Disk.accounts marked) w.extent.end (w.extent.end + 6)) list
    (c.in-Ok.ensures.moving (c.finish_file.ensures.frame.tells ∙ told)) in
    subst (λ (l : List ℕ). IsMovingWith ps [] (g.D.Disk.content marked) l (g.D.Disk.accounts marked) w.extent.end (w.extent.end + 6)) (sym c.new.ensures.items)
    (none_waits ps [] (g.D.Disk.content marked) (g.D.Disk.accounts marked) w.extent.end (w.extent.end + 6) moving))

pub returns-in-Ok-clause-moments : goal.returns-in-Ok-clause-moments
returns-in-Ok-clause-moments g c =
    let w = c.self.inside in
    let one = rw (← c.self.view_is) at c.requires.version in
    let new = c.finish_file.new.disk in
    let done = sym c.is_err.ensures.value ∙ c.if-is_err.false in
    let a0 = g.D.Disk.accounts w.disk in
    let a2 = g.D.Disk.accounts c.write_mark.new.disk in
    rw (← c.self.view_is)
    (λ told.
    let x = c.self.invariant.opening.extent_is in
    let rest = not_err _ done c.finish_file.ensures.rest told in
    let keeps = not_err _ done c.finish_file.ensures.keeps told in
    let list = list_first (g.D.Disk.tells w.disk) (g.D.Disk.content w.disk) (g.D.Disk.accounts w.disk) w.extent x told one (g.D.Disk.content new) (g.D.Disk.accounts new) (w.extent.end + 1) rest keeps in
    let ps = (counted_in (g.D.Disk.content w.disk)).payloads in
    let marked = subst (λ (l : List (List ℕ)). AtEachMoment (g.D.Disk.accounts new) a2 (IsUnmoved l)) list (c.write_mark.ensures.moments (c.finish_file.ensures.frame.tells ∙ told)) in
    let all = then_unmoved ps a0 (g.D.Disk.accounts new) a2 (unmoved_moments (g.D.Disk.tells w.disk) (g.D.Disk.content w.disk) (g.D.Disk.accounts w.disk) w.extent x told one a0 (g.D.Disk.accounts new) (c.finish_file.ensures.moments told)) marked in
    all)

pub returns-in-Ok-clause-settled : goal.returns-in-Ok-clause-settled
returns-in-Ok-clause-settled g c =
    let w = c.self.inside in
    let one = rw (← c.self.view_is) at c.requires.version in
    let new = c.finish_file.new.disk in
    let done = sym c.is_err.ensures.value ∙ c.if-is_err.false in
    let a0 = g.D.Disk.accounts w.disk in
    let a2 = g.D.Disk.accounts c.write_mark.new.disk in
    rw (← c.self.view_is)
    (λ told images.
    let x = c.self.invariant.opening.extent_is in
    let rest = not_err _ done c.finish_file.ensures.rest told in
    let keeps = not_err _ done c.finish_file.ensures.keeps told in
    let list = list_first (g.D.Disk.tells w.disk) (g.D.Disk.content w.disk) (g.D.Disk.accounts w.disk) w.extent x told one (g.D.Disk.content new) (g.D.Disk.accounts new) (w.extent.end + 1) rest keeps in
    let ps = (counted_in (g.D.Disk.content w.disk)).payloads in
    let marked = subst (λ (l : List (List ℕ)). AtEachMoment (g.D.Disk.accounts new) a2 (IsUnmoved l)) list (c.write_mark.ensures.moments (c.finish_file.ensures.frame.tells ∙ told)) in
    let all = then_unmoved ps a0 (g.D.Disk.accounts new) a2 (unmoved_moments (g.D.Disk.tells w.disk) (g.D.Disk.content w.disk) (g.D.Disk.accounts w.disk) w.extent x told one a0 (g.D.Disk.accounts new) (c.finish_file.ensures.moments told)) marked in
    only_unmoved ps (g.D.Disk.content w.disk) a0 a2 (unmoved_itself (g.D.Disk.tells w.disk) (g.D.Disk.content w.disk) (g.D.Disk.accounts w.disk) w.extent x told one) all images)

pub returns-in-Err-clause-moments_err : goal.returns-in-Err-clause-moments_err
returns-in-Err-clause-moments_err g c =
    let w = c.self.inside in
    let one = rw (← c.self.view_is) at c.requires.version in
    let new = c.finish_file.new.disk in
    let done = sym c.is_err.ensures.value ∙ c.if-is_err.false in
    let a0 = g.D.Disk.accounts w.disk in
    let a2 = g.D.Disk.accounts c.write_mark.new.disk in
    rw (← c.self.view_is)
    (λ told.
    let x = c.self.invariant.opening.extent_is in
    let rest = not_err _ done c.finish_file.ensures.rest told in
    let keeps = not_err _ done c.finish_file.ensures.keeps told in
    let list = list_first (g.D.Disk.tells w.disk) (g.D.Disk.content w.disk) (g.D.Disk.accounts w.disk) w.extent x told one (g.D.Disk.content new) (g.D.Disk.accounts new) (w.extent.end + 1) rest keeps in
    let ps = (counted_in (g.D.Disk.content w.disk)).payloads in
    let marked = subst (λ (l : List (List ℕ)). AtEachMoment (g.D.Disk.accounts new) a2 (IsUnmoved l)) list (c.write_mark.ensures.moments (c.finish_file.ensures.frame.tells ∙ told)) in
    let all = then_unmoved ps a0 (g.D.Disk.accounts new) a2 (unmoved_moments (g.D.Disk.tells w.disk) (g.D.Disk.content w.disk) (g.D.Disk.accounts w.disk) w.extent x told one a0 (g.D.Disk.accounts new) (c.finish_file.ensures.moments told)) marked in
    all)

pub returns-in-Err-clause-settled_err : goal.returns-in-Err-clause-settled_err
returns-in-Err-clause-settled_err g c =
    let w = c.self.inside in
    let one = rw (← c.self.view_is) at c.requires.version in
    let new = c.finish_file.new.disk in
    let done = sym c.is_err.ensures.value ∙ c.if-is_err.false in
    let a0 = g.D.Disk.accounts w.disk in
    let a2 = g.D.Disk.accounts c.write_mark.new.disk in
    rw (← c.self.view_is)
    (λ told images.
    let x = c.self.invariant.opening.extent_is in
    let rest = not_err _ done c.finish_file.ensures.rest told in
    let keeps = not_err _ done c.finish_file.ensures.keeps told in
    let list = list_first (g.D.Disk.tells w.disk) (g.D.Disk.content w.disk) (g.D.Disk.accounts w.disk) w.extent x told one (g.D.Disk.content new) (g.D.Disk.accounts new) (w.extent.end + 1) rest keeps in
    let ps = (counted_in (g.D.Disk.content w.disk)).payloads in
    let marked = subst (λ (l : List (List ℕ)). AtEachMoment (g.D.Disk.accounts new) a2 (IsUnmoved l)) list (c.write_mark.ensures.moments (c.finish_file.ensures.frame.tells ∙ told)) in
    let all = then_unmoved ps a0 (g.D.Disk.accounts new) a2 (unmoved_moments (g.D.Disk.tells w.disk) (g.D.Disk.content w.disk) (g.D.Disk.accounts w.disk) w.extent x told one a0 (g.D.Disk.accounts new) (c.finish_file.ensures.moments told)) marked in
    only_unmoved ps (g.D.Disk.content w.disk) a0 a2 (unmoved_itself (g.D.Disk.tells w.disk) (g.D.Disk.content w.disk) (g.D.Disk.accounts w.disk) w.extent x told one) all images)

-- the old records count before and after
pub finish_file-requires-clause-comes : goal.finish_file-requires-clause-comes
finish_file-requires-clause-comes g c =
    let w = c.self.inside in
    let one = rw (← c.self.view_is) at c.requires.version in
    let comes = rw (← c.self.view_is) at c.requires.comes in
    λ told file gives.
    let x = c.self.invariant.opening.extent_is in
    comes told (g.D.Disk.content w.disk) file (unmoved_itself (g.D.Disk.tells w.disk) (g.D.Disk.content w.disk) (g.D.Disk.accounts w.disk) w.extent x told one)
    (same_unmoved (g.D.Disk.tells w.disk) (g.D.Disk.content w.disk) (g.D.Disk.accounts w.disk) w.extent x told one file gives)

pub write_mark-requires-clause-comes : goal.write_mark-requires-clause-comes
write_mark-requires-clause-comes g c =
    let w = c.self.inside in
    let one = rw (← c.self.view_is) at c.requires.version in
    let comes = rw (← c.self.view_is) at c.requires.comes in
    let new = c.finish_file.new.disk in
    let done = sym c.is_err.ensures.value ∙ c.if-is_err.false in
    λ told1.
    let told = sym c.finish_file.ensures.frame.tells ∙ told1 in
    let x = c.self.invariant.opening.extent_is in
    let rest = not_err _ done c.finish_file.ensures.rest told in
    let keeps = not_err _ done c.finish_file.ensures.keeps told in
    let list = list_first (g.D.Disk.tells w.disk) (g.D.Disk.content w.disk) (g.D.Disk.accounts w.disk) w.extent x told one (g.D.Disk.content new) (g.D.Disk.accounts new) (w.extent.end + 1) rest keeps in
    subst (λ (ps : List (List ℕ)). Allows g.D.Disk.may_become (IsUnmoved ps) (IsUnmoved ps)) (sym list) (comes told)
