-- A connection of the host.
use Rattle.std.specs.Prelude.{Bool, true, false}
use Rattle.host_edge.specs.declared.fault_count.FaultCount.{FaultCount}
use Rattle.host_edge.specs.declared.host_link.HostLink.{HostLink}
use Rattle.host_edge.specs.declared.host_link.Stage.{Stage}
use Rattle.host_edge.specs.declared.host_link.Way.{Way}
use Rattle.host_edge.specs.declared.host_link.Way.TheVariants.{Socket, Gathered, First}
use Rattle.host_edge.specs.declared.host_link.Stage.TheVariants.{Fresh, Begun, AtRest, Over}

-- its faults
abbrev pub faults_of : HostLink → FaultCount
faults_of link = link.faults

abbrev pub over_at : Stage → Bool
over_at Fresh = false
over_at (Begun start) = false
over_at AtRest = false
over_at Over = true

abbrev pub rest_at : Stage → Bool
rest_at Fresh = false
rest_at (Begun start) = false
rest_at AtRest = true
rest_at Over = false

-- whether a call of it has failed
abbrev pub is_over : HostLink → Bool
is_over link = over_at link.stage

-- whether it has ended, and its door keeps the connection
abbrev pub is_at_rest : HostLink → Bool
is_at_rest link = rest_at link.stage

abbrev pub gathered_by : Way → Bool
gathered_by (Socket stream) = false
gathered_by (Gathered message) = true
gathered_by (First candidates) = false

-- whether it is over a message that its door has gathered
abbrev pub is_gathered : HostLink → Bool
is_gathered link = gathered_by link.way
