use Rattle.std.proofs.Common.{◌≡◌, ◌+◌, ◌++◌, false, map, All}
use Rattle.std.specs.Vec.{vec_len, vec_capacity}
use mathlib.Core.List.{reverse}
use Rattle.exam_hall.specs.Known.{IsOf}
use Rattle.prepare_desk.specs.Desks.{purpose_of}
use Rattle.prepare_desk.specs.Posts.{IsFirstOf}
use Rattle.exam_serve.specs.Doors.{IsNewStation, door_of}
use Rattle.exam_serve.proofs.stations.make_stations.Given as goal

-- the last doors have stations
abbrev pub invariant-loop : goal.invariant-loop
invariant-loop g l = record {
  of : IsOf l.pass l.hall;
  home : All (λ d. g.L.Door.is_out d ≡ false) l.doors.items;
  made : All (IsNewStation g.L.Door.is_out l.hall l.fn.pass.seen) l.stations.items;
  order : reverse l.fn.doors.items ≡ map door_of l.stations.items ++ reverse l.doors.items;
  pass : l.pass ≡ record l.fn.pass { splits = l.fn.pass.splits + l.counter };
  so_far : vec_len l.stations ≡ l.counter;
  all : vec_len l.doors + l.counter ≡ vec_len l.fn.doors;
  room : vec_capacity l.doors ≡ vec_capacity l.fn.doors;
  desk : IsFirstOf l.desk (purpose_of l.hall) l.first;
  splits : l.first.splits ≡ l.fn.first.splits + l.counter;
  room_there : vec_capacity l.stations ≡ vec_capacity l.fn.stations;
}
