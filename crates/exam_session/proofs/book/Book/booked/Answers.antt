use Rattle.exam_session.proofs.book.Book.booked.Goals as goal

pub session_with-requires : goal.session_with-requires
session_with-requires c = rw (c.as_slice.ensures.value, c.as_slice-2.ensures.value) c.self.invariant.2.rising

pub returns : goal.returns
returns c = cc (c.self.invariant.2.each c.args.booking)
