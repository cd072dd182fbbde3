use Rattle.exam_workers.specs.Stations.{Serves}
use Rattle.exam_workers.proofs.work.Given as goal

-- the links so far were served
abbrev pub invariant-loop : goal.invariant-loop
invariant-loop g l =
    (goal.iterator-loop g).can_next l.iterator' × (goal.iterator-loop g).is_finite l.iterator'
    × Serves g.L.Door.tells g.L.Door.coming g.L.Door.returned g.L.Door.is_out g.L.Door.faults g.L.Door.identity (g.S.Service.serves l.fn.service)
    l.fn.station l.station
