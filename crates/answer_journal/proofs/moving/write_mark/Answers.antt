use Rattle.exam_edge.specs.ImageLaws.{may_leave_alike}
use Rattle.answer_journal.specs.Frames.{shadowj1}
use Rattle.answer_journal.specs.Moving.{IsUnmoved}
use Rattle.answer_journal.specs.Standing.{payload_list}
use Rattle.answer_journal.proofs.MovingMoments.{mark_moments, mark_written}
use Rattle.answer_journal.proofs.moving.write_mark.Goals as goal

pub returns-in_err-write_at-clause-moments : goal.returns-in_err-write_at-clause-moments
returns-in_err-write_at-clause-moments g c = λ told.
    let before = c.requires.rest told in
    mark_moments _ _ _ before.0 before.1 5 _ (c.write_at.ensures.crash told)

pub returns-clause-moments : goal.returns-clause-moments
returns-clause-moments g c = λ told.
    let before = c.requires.rest told in
    mark_moments _ _ _ before.0 before.1 5 _ (c.write_at.ensures.crash told)

pub returns-clause-moving : goal.returns-clause-moving
returns-clause-moving g c = λ told.
    let before = c.requires.rest told in
    mark_written _ _ _ before.0 before.1 _ _ (c.in_ok-write_at.ensures.content told) (c.write_at.ensures.crash told)

pub write_at-requires-clause-comes : goal.write_at-requires-clause-comes
write_at-requires-clause-comes g c = λ told.
    let before = c.requires.rest told in
    let disk = c.args.disk.now in
    may_leave_alike g.D.Disk.may_become (IsUnmoved (payload_list shadowj1 (g.D.Disk.content disk))) (g.D.Disk.content disk) _ (g.D.Disk.accounts disk) (g.met.D.Disk.is_image disk told) (c.requires.comes told)
    (λ a1 crash. mark_moments _ _ _ before.0 before.1 5 a1 crash)
