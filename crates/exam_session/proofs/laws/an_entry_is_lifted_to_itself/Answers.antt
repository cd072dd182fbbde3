use Rattle.exam_session.proofs.LiftLaws.{may_is_lifted}
use Rattle.exam_session.proofs.laws.an_entry_is_lifted_to_itself.Goals as goal

pub returns : goal.returns
returns c = may_is_lifted
