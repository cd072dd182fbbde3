use Rattle.std.proofs.Common.{arith, refl}
use Rattle.exam_workers.proofs.Serving.{serves_none, serves_then, fair_then}
use Rattle.exam_workers.proofs.work.Goals as goal

pub loop-init : goal.loop-init
loop-init g c =
    let s = c.args.station.now in (
      tt,
      tt,
      serves_none g.L.Door.tells g.L.Door.coming g.L.Door.returned g.L.Door.is_out g.L.Door.faults g.L.Door.identity (g.S.Service.serves c.args.service.now)
          s s (search) refl refl (λ h. refl) (λ h. refl) refl refl c.requires.home (omega arith),
    )

pub loop-preserved : goal.loop-preserved
loop-preserved g c = (
  tt,
  tt,
  serves_then g.L.Door.tells g.L.Door.coming g.L.Door.returned g.L.Door.is_out g.L.Door.faults g.L.Door.identity (g.S.Service.serves c.args.service.now)
      c.args.station.now c.loop.station c.serve_next.new.station c.loop.invariant.2 c.serve_next.ensures.serves,
)

pub returns-then-serve_next-clause-serves : goal.returns-then-serve_next-clause-serves
returns-then-serve_next-clause-serves g c =
    serves_then g.L.Door.tells g.L.Door.coming g.L.Door.returned g.L.Door.is_out g.L.Door.faults g.L.Door.identity (g.S.Service.serves c.args.service.now)
    c.args.station.now c.loop.station c.serve_next.new.station c.loop.invariant.2 c.serve_next.ensures.serves

pub serve_next-requires-clause-fair : goal.serve_next-requires-clause-fair
serve_next-requires-clause-fair g c κs within = λ link comes.
    fair_then g.L.Door.tells g.L.Door.coming g.L.Door.returned g.L.Door.is_out g.L.Door.faults g.L.Door.identity (g.S.Service.serves c.args.service.now)
    (g.S.Service.fair c.args.service.now) c.args.station.now c.loop.station link c.requires.fair c.loop.invariant.2 comes
