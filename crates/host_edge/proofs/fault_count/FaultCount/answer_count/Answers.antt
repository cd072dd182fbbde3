use Rattle.std.proofs.Common.{rules}
use Rattle.host_edge.proofs.fault_count.FaultCount.answer_count.Goals as goal

pub returns-in-Ok-clause-done : goal.returns-in-Ok-clause-done
returns-in-Ok-clause-done c = search rules
