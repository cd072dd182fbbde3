use Rattle.std.proofs.Common.{rules}
use Rattle.spec_reader.proofs.read.early_fault.Goals as goal

pub returns : goal.returns
returns c = search rules
