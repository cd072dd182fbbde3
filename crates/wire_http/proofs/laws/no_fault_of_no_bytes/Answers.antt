use Rattle.wire_http.proofs.MessageLaws.{no_fault_of_no_bytes}
use Rattle.wire_http.proofs.laws.no_fault_of_no_bytes.Goals as goal

pub returns : goal.returns
returns c = no_fault_of_no_bytes
