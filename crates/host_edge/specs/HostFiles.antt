-- The files of the host.
use Rattle.host_edge.specs.declared.fault_count.FaultCount.{FaultCount}
use Rattle.host_edge.specs.declared.host_files.HostFiles.{HostFiles}

-- its faults
abbrev pub faults_of : HostFiles → FaultCount
faults_of files = files.faults
