use Rattle.exam_program.proofs.SettledLaws.{settled_history_is_kept}
use Rattle.exam_program.proofs.laws.settled_history_is_kept.Goals as goal

pub returns : goal.returns
returns c = settled_history_is_kept
