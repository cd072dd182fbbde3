use Rattle.std.proofs.Common.{arith}
use Rattle.turn_lock.proofs.Keeping.{leaves}
use Rattle.turn_lock.proofs.steps.leave.Goals as goal

pub fetch_add-served-requires : goal.fetch_add-served-requires
fetch_add-served-requires g c =
    let k = c.requires.back in (
      c.requires.of.0,
      omega
          (arith, c.requires.of.1.0),
      leaves g.V.Kept.history _ c.args.seat.now.id c.args.seat.now.me c.requires.turn k.0 k.1 k.2,
    )
