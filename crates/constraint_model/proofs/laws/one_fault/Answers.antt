use Rattle.constraint_model.proofs.Deciding.{one_fault}
use Rattle.constraint_model.proofs.laws.one_fault.Goals as goal

pub returns : goal.returns
returns c = one_fault
