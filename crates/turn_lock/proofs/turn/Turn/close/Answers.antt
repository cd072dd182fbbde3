use Rattle.std.proofs.Common.{rules}
use Rattle.turn_lock.proofs.Joining.{knows_still}
use Rattle.turn_lock.proofs.turn.Turn.close.Goals as goal

pub keep-requires-clause-served : goal.keep-requires-clause-served
keep-requires-clause-served c = search rules

pub returns-clause-all : goal.returns-clause-all
returns-clause-all g c =
    knows_still (g.V.Kept.history c.keep.result) c.pass.inside.seat.me c.draw-ticket.new.seat.me c.await_last.new.seat.me c.draw-ticket.ensures.drawn.0
    c.pass.inside.seat.table_id c.await_last.new.seat.table_id c.args.pass c.pass.view_is c.draw-ticket.ensures.drawn.2
    c.await_last.ensures.served c.keep.ensures.all
