use Rattle.std.proofs.Common.{List, ℕ, sym, subst}
use Rattle.answer_journal.specs.Moving.{IsMovingWith}
use Rattle.answer_journal.proofs.MovingMoments.{waiting_start}
use Rattle.answer_journal.proofs.moving.write_batch.Goals as goal

pub returns-then-len-lt-BATCH-clause-moments : goal.returns-then-len-lt-BATCH-clause-moments
returns-then-len-lt-BATCH-clause-moments g c = λ told ps qs gate m. waiting_start ps qs _ _ _ gate _ m

pub returns-in_err-write_waiting-clause-moments : goal.returns-in_err-write_waiting-clause-moments
returns-in_err-write_waiting-clause-moments g c = λ told ps qs gate m.
    let disk = c.args.disk.now in
    c.write_waiting.ensures.moments told ps qs gate
    (subst (λ (l : List ℕ). IsMovingWith ps qs (g.D.Disk.content disk) l (g.D.Disk.accounts disk) gate c.args.end) (sym c.deref.ensures.value) m)

pub returns-clause-moments : goal.returns-clause-moments
returns-clause-moments g c = λ told ps qs gate m.
    let disk = c.args.disk.now in
    c.write_waiting.ensures.moments told ps qs gate
    (subst (λ (l : List ℕ). IsMovingWith ps qs (g.D.Disk.content disk) l (g.D.Disk.accounts disk) gate c.args.end) (sym c.deref.ensures.value) m)
