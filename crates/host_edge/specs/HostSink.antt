-- Standard output.
use Rattle.host_edge.specs.declared.fault_count.FaultCount.{FaultCount}
use Rattle.host_edge.specs.declared.host_sink.HostSink.{HostSink}

-- its faults
abbrev pub faults_of : HostSink → FaultCount
faults_of sink = sink.faults
