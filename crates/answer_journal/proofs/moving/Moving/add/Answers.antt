use Rattle.std.proofs.Common.{[], ◌∷◌, ◌++◌, sym, ◌∙◌, arith}
use Rattle.answer_journal.proofs.MovingMoments.{one_more, waiting_start}
use Rattle.answer_journal.proofs.SwitchMoments.{not_err}
use Rattle.answer_journal.proofs.moving.Moving.add.Goals as goal

pub returns-then-self-with_it-clause-moments : goal.returns-then-self-with_it-clause-moments
returns-then-self-with_it-clause-moments g c = λ told ps qs m. waiting_start ps qs _ _ _ _ _ m

pub returns-then-is_err-clause-moments : goal.returns-then-is_err-clause-moments
returns-then-is_err-clause-moments g c = rw (← c.self.view_is) (λ told ps qs m. waiting_start ps qs _ _ _ _ _ m)

pub write_batch-requires-clause-moving : goal.write_batch-requires-clause-moving
write_batch-requires-clause-moving g c =
    let done = sym c.is_err.ensures.value ∙ c.if-is_err.false in
    let moving = rw (← c.self.view_is) at c.requires.moving in
    λ told. let some = moving told in
    (some.0, some.1 ++ c.args.payload.now ∷ [], c.self.inside.gate, one_more some.0 some.1 _ _ _ _ _ some.2 c.args.payload.now _ _ c.requires.fits (not_err _ done c.put_record.ensures.added) (omega arith), some.3)

pub returns-then-is_err-2-clause-moments : goal.returns-then-is_err-2-clause-moments
returns-then-is_err-2-clause-moments g c =
    let done = sym c.is_err.ensures.value ∙ c.if-is_err.false in
    rw (← c.self.view_is)
    (λ told ps qs m. c.write_batch.ensures.moments told ps (qs ++ c.args.payload.now ∷ []) _
    (one_more ps qs _ _ _ _ _ m c.args.payload.now _ _ c.requires.fits (not_err _ done c.put_record.ensures.added) (omega arith)))

pub returns-clause-added : goal.returns-clause-added
returns-clause-added g c =
    let done = sym c.is_err.ensures.value ∙ c.if-is_err.false in
    let wrote = sym c.is_err-2.ensures.value ∙ c.if-is_err-2.false in
    rw (← c.self.view_is)
    (λ told ps qs m. not_err _ wrote c.write_batch.ensures.moving told ps (qs ++ c.args.payload.now ∷ []) _
    (one_more ps qs _ _ _ _ _ m c.args.payload.now _ _ c.requires.fits (not_err _ done c.put_record.ensures.added) (omega arith)))

pub returns-clause-moments : goal.returns-clause-moments
returns-clause-moments g c =
    let done = sym c.is_err.ensures.value ∙ c.if-is_err.false in
    rw (← c.self.view_is)
    (λ told ps qs m. c.write_batch.ensures.moments told ps (qs ++ c.args.payload.now ∷ []) _
    (one_more ps qs _ _ _ _ _ m c.args.payload.now _ _ c.requires.fits (not_err _ done c.put_record.ensures.added) (omega arith)))
