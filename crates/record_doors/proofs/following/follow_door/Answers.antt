use Rattle.std.proofs.Common.{arith}
use Rattle.record_links.proofs.Rules.{same_rule, same_still}
use Rattle.record_doors.proofs.Chaining.{followed_none, followed_more, followed_over}
use Rattle.record_doors.proofs.following.follow_door.Goals as goal

pub links-init : goal.links-init
links-init g c = record {
  rule = same_rule _ _ _;
  later = g.met.F.Replica.later_itself c.args.replica.now;
  followed = followed_none g.L.Door.tells g.L.Door.coming g.L.Door.returned g.L.Door.is_out g.L.Door.faults g.L.Door.identity
      g.L.Link.Link.tells g.L.Link.Link.left g.L.Link.Link.written g.L.Link.Link.faults g.L.Link.Link.identity
      _ _ _ _ c.args.door.now c.requires.home;
  faults = omega arith;
}

pub follow_next-requires-clause-home : goal.follow_next-requires-clause-home
follow_next-requires-clause-home g c κs within = c.links.invariant.followed.gives.home

pub links-preserved : goal.links-preserved
links-preserved g c =
    let was = c.links.invariant in
    let step = c.in-GoesOn.ensures in
    record {
      rule = same_still _ _ _ _ _ _ _ _ _ was.rule step.rule;
      later = g.met.F.Replica.later_still _ _ _ was.later step.later;
      followed = followed_more g.L.Door.tells g.L.Door.coming g.L.Door.returned g.L.Door.is_out g.L.Door.faults g.L.Door.identity
          g.L.Link.Link.tells g.L.Link.Link.left g.L.Link.Link.written g.L.Link.Link.faults g.L.Link.Link.identity
          _ _ _ _ _ _ was.rule _ c.args.door.now c.links.door _ _ _ was.followed step.next;
      faults = let a = was.faults in let b = step.grows in omega (arith, a, b);
    }

pub returns-in-Over-clause-followed : goal.returns-in-Over-clause-followed
returns-in-Over-clause-followed g c =
    followed_over g.L.Door.tells g.L.Door.coming g.L.Door.returned g.L.Door.is_out g.L.Door.faults g.L.Door.identity
    g.L.Link.Link.tells g.L.Link.Link.left g.L.Link.Link.written g.L.Link.Link.faults g.L.Link.Link.identity
    _ _ _ _ _ _ c.links.invariant.rule _ c.args.door.now c.links.door _ _ _ c.in-Over.end c.links.invariant.followed c.in-Over.ensures.next

pub returns-in-Over-clause-rule : goal.returns-in-Over-clause-rule
returns-in-Over-clause-rule g c = same_still _ _ _ _ _ _ _ _ _ c.links.invariant.rule c.in-Over.ensures.rule

pub returns-in-Over-clause-later : goal.returns-in-Over-clause-later
returns-in-Over-clause-later g c = g.met.F.Replica.later_still _ _ _ c.links.invariant.later c.in-Over.ensures.later
