use Rattle.std.proofs.Common.{sym, ◌∙◌}
use Rattle.exam_edge.specs.ImageLaws.{joined}
use Rattle.answer_journal.specs.Moving.{IsUnmoved}
use Rattle.answer_journal.proofs.MovingMoments.{closed_written}
use Rattle.answer_journal.proofs.moving.write_rest.Goals as goal

pub close_after-requires : goal.close_after-requires
close_after-requires g c = record {
  moving = λ told1.
      let told = sym c.write_waiting.ensures.frame.tells ∙ told1 in
      let some = c.requires.moving told in
      (some.0, some.1, some.2, c.in_ok-write_waiting.ensures.moving told some.0 some.1 some.2 some.3, some.4);
}

pub returns-in_err-close_after-clause-moments : goal.returns-in_err-close_after-clause-moments
returns-in_err-close_after-clause-moments g c = λ told ps qs gate m.
    joined (IsUnmoved ps) _ _ _ (c.write_waiting.ensures.moments told ps qs gate m)
    (c.close_after.ensures.moments (c.write_waiting.ensures.frame.tells ∙ told) ps qs gate (c.in_ok-write_waiting.ensures.moving told ps qs gate m))

pub returns-in_err-close_after-clause-left : goal.returns-in_err-close_after-clause-left
returns-in_err-close_after-clause-left g c = λ told. c.close_after.ensures.left (c.write_waiting.ensures.frame.tells ∙ told)

pub returns-clause-whole : goal.returns-clause-whole
returns-clause-whole g c = λ told ps qs gate m.
    let told1 = c.write_waiting.ensures.frame.tells ∙ told in
    closed_written ps qs _ _ gate _ (c.in_ok-write_waiting.ensures.moving told ps qs gate m) _ _ (c.in_ok-close_after.ensures.content told1) (c.in_ok-close_after.ensures.settled told1)

pub returns-clause-moments : goal.returns-clause-moments
returns-clause-moments g c = λ told ps qs gate m.
    joined (IsUnmoved ps) _ _ _ (c.write_waiting.ensures.moments told ps qs gate m)
    (c.close_after.ensures.moments (c.write_waiting.ensures.frame.tells ∙ told) ps qs gate (c.in_ok-write_waiting.ensures.moving told ps qs gate m))

pub returns-clause-left : goal.returns-clause-left
returns-clause-left g c = λ told. c.close_after.ensures.left (c.write_waiting.ensures.frame.tells ∙ told)
