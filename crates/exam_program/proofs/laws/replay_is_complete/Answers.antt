use Rattle.exam_program.proofs.Completeness.{replay_is_complete}
use Rattle.exam_program.proofs.laws.replay_is_complete.Goals as goal

pub returns : goal.returns
returns c = replay_is_complete
