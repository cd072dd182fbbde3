use Rattle.exam_program.proofs.SessionLaws.{served_lists_are_kept}
use Rattle.exam_program.proofs.laws.served_lists_are_kept.Goals as goal

pub returns : goal.returns
returns c = served_lists_are_kept
