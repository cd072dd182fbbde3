use Rattle.std.proofs.Common.{sym, ◌∙◌}
use Rattle.constraint_model.proofs.PlanLaws.{countable_from, plan_from}
use Rattle.constraint_model.proofs.FaultLaws.{after_front, numbers_first}
use Rattle.constraint_model.proofs.faults.remaining_fault.Goals as goal

pub returns-in-Some : goal.returns-in-Some
returns-in-Some c = numbers_first c.args.bank.now c.args.draft.now c.in-Some.fault (after_front c.args.bank.now c.args.draft.now c.requires ∙ sym c.end_fault.ensures ∙ c.in-Some.is)

pub base_breach-requires : goal.base_breach-requires
base_breach-requires c = countable_from c.args.bank.now c.args.draft.now (after_front c.args.bank.now c.args.draft.now c.requires ∙ sym c.end_fault.ensures ∙ c.in_default.is)

pub returns-in-None : goal.returns-in-None
returns-in-None c = plan_from c.args.bank.now c.args.draft.now (after_front c.args.bank.now c.args.draft.now c.requires ∙ sym c.end_fault.ensures ∙ c.in_default.is) c.in-None.ensures
