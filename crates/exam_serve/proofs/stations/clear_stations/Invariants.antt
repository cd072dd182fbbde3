use Rattle.std.proofs.Common.{◌≡◌, ◌+◌, All}
use Rattle.std.specs.Vec.{vec_len, vec_capacity}
use Rattle.turn_lock.specs.Histories.{StartsWith}
use Rattle.exam_hall.specs.Known.{IsOf}
use Rattle.exam_serve.specs.Joining.{AreCleared, IsSamePass}
use Rattle.exam_serve.proofs.stations.clear_stations.Given as goal

-- the first doors are back, and the passes of their stations joined
abbrev pub invariant-loop : goal.invariant-loop
invariant-loop g l = record {
  of : IsOf l.pass l.hall;
  same : All (λ s. s.token.caller.hall ≡ l.hall) l.stations.items;
  same_pass : IsSamePass l.fn.pass l.pass;
  begins : StartsWith l.pass.seen l.fn.pass.seen;
  all : vec_len l.stations + l.counter ≡ vec_len l.fn.stations;
  so_far : vec_len l.doors ≡ l.counter;
  room : vec_capacity l.doors ≡ vec_capacity l.fn.doors;
  cleared : AreCleared l.pass l.fn.stations.items l.stations.items l.doors.items l.cleared.failed l.cleared.starved;
}
