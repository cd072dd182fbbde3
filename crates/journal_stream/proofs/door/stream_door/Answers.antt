use Rattle.std.proofs.Common.{Bool, arith, refl, ◌∙◌, subst}
use Rattle.journal_stream.specs.Doors.{Continues}
use Rattle.journal_stream.proofs.Chained.{passed_none, passed_more, passed_over}
use Rattle.journal_stream.specs.declared.door.Next.TheVariants.{GoesOn, Over}
use Rattle.journal_stream.proofs.door.stream_door.Goals as goal

pub links-init : goal.links-init
links-init g c = record {
  tells = refl;
  passed = passed_none g.L.Door.tells g.L.Door.coming g.L.Door.returned g.L.Door.is_out g.L.Door.faults g.L.Door.identity
      g.L.Link.Link.tells g.L.Link.Link.left g.L.Link.Link.written g.L.Link.Link.faults g.L.Link.Link.identity
      _ _ c.args.door.now c.requires.home;
  faults = omega arith;
}

pub stream_next-requires-clause-home : goal.stream_next-requires-clause-home
stream_next-requires-clause-home g c κs within = c.links.invariant.passed.gives.home

pub links-preserved : goal.links-preserved
links-preserved g c =
    let was = c.links.invariant in
    let step = c.in-GoesOn.ensures in
    record {
      tells = step.tells ∙ was.tells;
      passed = passed_more g.L.Door.tells g.L.Door.coming g.L.Door.returned g.L.Door.is_out g.L.Door.faults g.L.Door.identity
          g.L.Link.Link.tells g.L.Link.Link.left g.L.Link.Link.written g.L.Link.Link.faults g.L.Link.Link.identity
          _ _ c.args.door.now c.links.door _ _ _ was.passed
          (subst (λ (b : Bool). Continues g.L.Door.tells g.L.Door.coming g.L.Door.returned g.L.Door.is_out g.L.Door.faults g.L.Door.identity
          g.L.Link.Link.tells g.L.Link.Link.left g.L.Link.Link.written g.L.Link.Link.faults g.L.Link.Link.identity b
          (g.G.GrowingLog.records c.links.log) c.links.door c.stream_next.new.door (g.G.GrowingLog.records c.stream_next.new.log) GoesOn) was.tells step.next);
      faults = let a = was.faults in let b = step.grows in omega (arith, a, b);
    }

pub returns-in-Over-clause-streamed : goal.returns-in-Over-clause-streamed
returns-in-Over-clause-streamed g c =
    let was = c.links.invariant in
    passed_over g.L.Door.tells g.L.Door.coming g.L.Door.returned g.L.Door.is_out g.L.Door.faults g.L.Door.identity
    g.L.Link.Link.tells g.L.Link.Link.left g.L.Link.Link.written g.L.Link.Link.faults g.L.Link.Link.identity
    _ _ c.args.door.now c.links.door _ _ _ c.in-Over.end was.passed
    (subst (λ (b : Bool). Continues g.L.Door.tells g.L.Door.coming g.L.Door.returned g.L.Door.is_out g.L.Door.faults g.L.Door.identity
    g.L.Link.Link.tells g.L.Link.Link.left g.L.Link.Link.written g.L.Link.Link.faults g.L.Link.Link.identity b
    (g.G.GrowingLog.records c.links.log) c.links.door c.stream_next.new.door (g.G.GrowingLog.records c.stream_next.new.log) (Over c.in-Over.end)) was.tells c.in-Over.ensures.next)
