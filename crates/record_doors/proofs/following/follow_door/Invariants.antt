use Rattle.std.proofs.Common.{◌≤◌}
use Rattle.record_links.specs.Replicas.{IsSameRule}
use Rattle.record_doors.proofs.Chaining.{AreFollowed}
use Rattle.record_doors.proofs.following.follow_door.Given as goal

abbrev pub invariant-links : goal.invariant-links
invariant-links g l = record {
  rule : IsSameRule (g.F.Replica.may_follow l.fn.replica) (g.F.Replica.may_follow l.replica)
      (g.F.Replica.size l.fn.replica) (g.F.Replica.size l.replica)
      (g.F.Replica.limit l.fn.replica) (g.F.Replica.limit l.replica);
  later : g.F.Replica.is_later l.fn.replica l.replica;
  followed : AreFollowed g.L.Door.tells g.L.Door.coming g.L.Door.returned g.L.Door.is_out g.L.Door.faults g.L.Door.identity
      g.L.Link.Link.tells g.L.Link.Link.left g.L.Link.Link.written g.L.Link.Link.faults g.L.Link.Link.identity
      (g.F.Replica.may_follow l.fn.replica) (g.F.Replica.size l.fn.replica) (g.F.Replica.limit l.fn.replica)
      (g.F.Replica.held l.fn.replica) l.fn.door l.door (g.F.Replica.held l.replica);
  faults : g.F.Replica.faults l.fn.replica ≤ g.F.Replica.faults l.replica;
}
