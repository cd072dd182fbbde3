use Rattle.std.proofs.Common.{◌≡◌, ◌++◌, ◌≤◌, ℕ, List, IsTrue}
use Rattle.exam_edge.specs.Lent.{IsLent}
use Rattle.record_links.specs.Messages.{bytes_of}
use Rattle.record_links.specs.Replicas.{IsSameRule}
use Rattle.record_links.specs.Following.{Goes, Serves}
use Rattle.record_links.specs.World.{Numbered}
use Rattle.record_links.proofs.following.follow_all.Given as goal

abbrev pub invariant-messages : goal.invariant-messages
invariant-messages g l = record {
  rule : IsSameRule (g.F.Replica.may_follow l.fn.replica) (g.F.Replica.may_follow l.replica)
      (g.F.Replica.size l.fn.replica) (g.F.Replica.size l.replica)
      (g.F.Replica.limit l.fn.replica) (g.F.Replica.limit l.replica);
  later : g.F.Replica.is_later l.fn.replica l.replica;
  goes : Goes (g.F.Replica.may_follow l.fn.replica) (g.F.Replica.size l.fn.replica) (g.F.Replica.limit l.fn.replica)
      (g.F.Replica.held l.fn.replica) (g.F.Replica.held l.replica);
  served : IsTrue (g.K.Link.tells l.fn.link) → (offers : List (Numbered (List ℕ))) × (texts : List ℕ)
      × (g.K.Link.written l.link ≡ g.K.Link.written l.fn.link ++ texts)
      × Serves (g.F.Replica.may_follow l.fn.replica) (g.F.Replica.size l.fn.replica) (g.F.Replica.limit l.fn.replica)
      (g.F.Replica.held l.fn.replica) (bytes_of l.fn.kept ++ g.K.Link.left l.fn.link) offers texts
      (bytes_of l.kept ++ g.K.Link.left l.link) (g.F.Replica.held l.replica);
  faults : g.F.Replica.faults l.fn.replica ≤ g.F.Replica.faults l.replica;
  frame : IsLent g.K.Link.tells g.K.Link.identity g.K.Link.faults l.fn.link l.link;
}
