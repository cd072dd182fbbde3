use Rattle.exam_program.proofs.SessionLaws.{lists_are_kept}
use Rattle.exam_program.proofs.laws.lists_are_kept.Goals as goal

pub returns : goal.returns
returns c = lists_are_kept
