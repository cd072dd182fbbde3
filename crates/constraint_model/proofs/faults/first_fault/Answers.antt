use Rattle.std.proofs.Common.{sym, ◌∙◌}
use Rattle.constraint_model.proofs.FaultLaws.{front_first}
use Rattle.constraint_model.proofs.faults.first_fault.Goals as goal

pub returns-in-Some : goal.returns-in-Some
returns-in-Some c = front_first c.args.bank.now c.args.draft.now c.in-Some.fault (sym c.front_fault.ensures ∙ c.in-Some.is)
