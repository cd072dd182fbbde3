use Rattle.exam_program.proofs.SettledLaws.{settled_replay_is_on_the_way}
use Rattle.exam_program.proofs.laws.settled_replay_is_on_the_way.Goals as goal

pub returns : goal.returns
returns c = settled_replay_is_on_the_way
