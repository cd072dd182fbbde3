use Rattle.std.proofs.Common.{rules}
use Rattle.host_edge.proofs.fault_count.FaultCount.count_fault.Goals as goal

pub returns-clause-counted : goal.returns-clause-counted
returns-clause-counted c = search rules
