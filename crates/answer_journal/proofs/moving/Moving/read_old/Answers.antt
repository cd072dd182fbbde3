use Rattle.std.proofs.Common.{[], get_or}
use Rattle.answer_journal.proofs.MovingMoments.{old_fits, old_record}
use Rattle.answer_journal.proofs.Walking.{weaker_ok}
use Rattle.answer_journal.proofs.moving.Moving.read_old.Goals as goal

pub returns-clause-payload : goal.returns-clause-payload
returns-clause-payload g c =
    rw (← c.self.view_is)
    (weaker_ok _ _ c.read_before.result c.read_before.ensures.payload
    (λ found gives told ps qs k m lt place. gives told (get_or ps k []) (old_record ps m.here _ _ _ _ m.moving k c.args.at lt place) (old_fits ps m.here _ _ _ _ m.moving k c.args.at lt place)))
