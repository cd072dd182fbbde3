use Rattle.std.proofs.Common.{sym}
use Rattle.exam_session.proofs.book.Book.first_band.Goals as goal

pub returns-clause-band : goal.returns-clause-band
returns-clause-band c = rw (← c.self.view_is) (c.first_band.ensures.band c.self.inside.bank.now (sym c.self.invariant.0.plan.prior_number))
