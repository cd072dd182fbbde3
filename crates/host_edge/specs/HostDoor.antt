-- A door of the host.
use Rattle.std.specs.Prelude.{◌≡◌, ◌-◌, ℕ, Bool, true, false, Option, Some, None, nat_lt}
use Rattle.host_edge.specs.declared.fault_count.FaultCount.{FaultCount}
use Rattle.host_edge.specs.declared.host_door.HostDoor.{HostDoor}
use Rattle.host_edge.specs.declared.host_door.Origin.{Origin}
use Rattle.host_edge.specs.declared.host_door.Origin.TheVariants.{Nowhere, Listener, Address}

-- whether connections can come from there
abbrev pub comes_from : Origin → Bool
comes_from Nowhere = false
comes_from (Listener listener) = true
comes_from (Address address) = true

-- whether it has a listener, or an address to connect to
abbrev pub listens : HostDoor → Bool
listens door = comes_from door.origin

-- how many more links it gives, if that is limited
abbrev pub left_of : HostDoor → Option ℕ
left_of door = door.left

-- whether a link is out
abbrev pub out_of : HostDoor → Bool
out_of door = door.out

-- whether it gave its end since the journal is lost
abbrev pub ended_of : HostDoor → Bool
ended_of door = door.ended

-- its faults
abbrev pub faults_of : HostDoor → FaultCount
faults_of door = door.faults

-- a link is given only while some are left, and is one less; none is given only where none is left
abbrev pub IsLinkCounted : Bool → Option ℕ → Option ℕ → Type 0
IsLinkCounted given None new = (given ≡ true) × (new ≡ None)
IsLinkCounted given (Some n) new = (given ≡ nat_lt 0 n) × (new ≡ Some (n - 1))
