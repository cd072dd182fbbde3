use Rattle.std.proofs.Common.{◌≡◌, length, sym, arith}
use Rattle.std.proofs.lemmas.Bool.{eqb-true}
use Rattle.exam_edge.specs.ImageLaws.{may_leave_alike}
use Rattle.answer_journal.specs.Moving.{IsUnmoved}
use Rattle.answer_journal.proofs.MovingMoments.{batch_left, batch_moments, batch_written, nothing_waits, waiting_start}
use Rattle.answer_journal.proofs.moving.write_waiting.Goals as goal

pub returns-then-is_empty-clause-moving : goal.returns-then-is_empty-clause-moving
returns-then-is_empty-clause-moving g c = λ told ps qs gate m.
    let none : length c.args.waiting.now ≡ 0 = eqb-true _ _ (sym c.if-is_empty.ensures) in
    nothing_waits ps qs _ _ _ gate _ m none

pub returns-then-is_empty-clause-moments : goal.returns-then-is_empty-clause-moments
returns-then-is_empty-clause-moments g c = λ told ps qs gate m. waiting_start ps qs _ _ _ gate _ m

pub returns-in_err-write_at-clause-moments : goal.returns-in_err-write_at-clause-moments
returns-in_err-write_at-clause-moments g c = λ told ps qs gate m. batch_moments ps qs _ _ _ gate _ m _ _ (c.write_at.ensures.crash told) (omega arith)

pub returns-in_err-write_at-clause-left : goal.returns-in_err-write_at-clause-left
returns-in_err-write_at-clause-left g c = λ told.
    let some = c.requires.moving told in
    batch_left some.0 some.1 _ _ _ some.2 _ some.3 _ _ (c.write_at.ensures.crash told) (omega arith)

pub returns-clause-moving : goal.returns-clause-moving
returns-clause-moving g c = λ told ps qs gate m.
    batch_written ps qs _ _ _ gate _ m _ _ (c.write_at.ensures.crash told) (omega arith) _ (c.in_ok-write_at.ensures.content told)

pub returns-clause-moments : goal.returns-clause-moments
returns-clause-moments g c = λ told ps qs gate m. batch_moments ps qs _ _ _ gate _ m _ _ (c.write_at.ensures.crash told) (omega arith)

pub returns-clause-left : goal.returns-clause-left
returns-clause-left g c = λ told.
    let some = c.requires.moving told in
    batch_left some.0 some.1 _ _ _ some.2 _ some.3 _ _ (c.write_at.ensures.crash told) (omega arith)

pub write_at-requires-clause-comes : goal.write_at-requires-clause-comes
write_at-requires-clause-comes g c = λ told.
    let some = c.requires.moving told in
    let disk = c.args.disk.now in
    may_leave_alike g.D.Disk.may_become (IsUnmoved some.0) (g.D.Disk.content disk) _ (g.D.Disk.accounts disk) (g.met.D.Disk.is_image disk told) some.4
    (λ a1 crash. batch_moments some.0 some.1 _ _ _ some.2 _ some.3 _ a1 crash (omega arith))
