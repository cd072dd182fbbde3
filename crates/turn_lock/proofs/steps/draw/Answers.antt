use Rattle.std.proofs.Common.{arith}
use Rattle.turn_lock.proofs.Keeping.{draws}
use Rattle.turn_lock.proofs.steps.draw.Goals as goal

pub fetch_add-requires : goal.fetch_add-requires
fetch_add-requires g c =
    let i = c.requires.idle in (
      c.requires.of.0,
      omega
          (arith, c.requires.of.1.0),
      draws g.V.Kept.history _ c.args.seat.now.id c.args.seat.now.me i.live i.ticket i.served i.out,
    )
