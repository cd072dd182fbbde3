use Rattle.std.proofs.Common.{arith}
use Rattle.turn_lock.proofs.Keeping.{serves}
use Rattle.turn_lock.proofs.steps.look.Goals as goal

pub load-requires : goal.load-requires
load-requires g c =
    let w = c.requires.waits in (
      c.requires.of.0,
      omega
          (arith, c.requires.of.1.0),
      serves g.V.Kept.history _ c.args.seat.now.id c.args.seat.now.me w.ticket w.has w.home,
    )
