use Rattle.exam_edge.specs.ImageLaws.{may_leave_alike_dropped}
use Rattle.answer_journal.specs.Moving.{IsUnmoved}
use Rattle.answer_journal.proofs.MovingMoments.{closed_is, closing_clean, moving_left, moving_moments}
use Rattle.answer_journal.proofs.moving.close_after.Goals as goal

pub returns-clause-content : goal.returns-clause-content
returns-clause-content g c = λ told.
    let some = c.requires.moving told in
    closed_is some.0 some.1 _ _ some.2 _ some.3 _ (c.in_ok-write_durably.ensures.content told)

pub returns-clause-settled : goal.returns-clause-settled
returns-clause-settled g c = λ told.
    let some = c.requires.moving told in
    c.in_ok-write_durably.ensures.settled told (closing_clean some.0 some.1 _ _ some.2 _ some.3)

pub returns-in_err-write_durably-clause-moments : goal.returns-in_err-write_durably-clause-moments
returns-in_err-write_durably-clause-moments g c = λ told ps qs gate m.
    moving_moments ps qs _ _ gate _ m 1 _ (c.write_durably.ensures.crash told)

pub returns-clause-moments : goal.returns-clause-moments
returns-clause-moments g c = λ told ps qs gate m.
    moving_moments ps qs _ _ gate _ m 1 _ (c.write_durably.ensures.crash told)

pub returns-in_err-write_durably-clause-left : goal.returns-in_err-write_durably-clause-left
returns-in_err-write_durably-clause-left g c = λ told.
    let some = c.requires.moving told in
    moving_left some.0 some.1 _ _ some.2 _ some.3 1 _ (c.write_durably.ensures.crash told)

pub returns-clause-left : goal.returns-clause-left
returns-clause-left g c = λ told.
    let some = c.requires.moving told in
    moving_left some.0 some.1 _ _ some.2 _ some.3 1 _ (c.write_durably.ensures.crash told)

pub write_durably-requires-clause-comes : goal.write_durably-requires-clause-comes
write_durably-requires-clause-comes g c = λ told.
    let some = c.requires.moving told in
    let disk = c.args.disk.now in
    may_leave_alike_dropped g.D.Disk.may_become (IsUnmoved some.0) (g.D.Disk.content disk) _ (g.D.Disk.accounts disk) (g.met.D.Disk.is_image disk told) some.4
    (λ a1 crash. moving_moments some.0 some.1 _ _ some.2 _ some.3 1 a1 crash)
