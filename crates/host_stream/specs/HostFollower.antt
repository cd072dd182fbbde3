-- The connections to a follower.
use Rattle.std.specs.Prelude.{ℕ, Bool}
use Rattle.host_edge.specs.HostDoor.{out_of}
use Rattle.host_stream.specs.declared.follower.HostFollower.{HostFollower}

-- how many of its calls failed
abbrev pub faults_of : HostFollower → ℕ
faults_of follower = follower.faults

-- whether a link is out
abbrev pub is_out : HostFollower → Bool
is_out follower = out_of follower.door
