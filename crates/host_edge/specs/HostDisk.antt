-- The journal's file of the host.
use Rattle.std.specs.Prelude.{ℕ, List, string_bytes}
use Rattle.host_edge.specs.declared.fault_count.FaultCount.{FaultCount}
use Rattle.host_edge.specs.declared.journal_file.Access.{Access}
use Rattle.host_edge.specs.declared.host_disk.HostDisk.{HostDisk}

-- its faults
abbrev pub faults_of : HostDisk → FaultCount
faults_of disk = disk.faults

-- the path of its file
abbrev pub path_of : HostDisk → List ℕ
path_of disk = string_bytes disk.file.path

-- how its file is opened
abbrev pub access_of : HostDisk → Access
access_of disk = disk.file.access
