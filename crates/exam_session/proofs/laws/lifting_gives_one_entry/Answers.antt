use Rattle.exam_session.proofs.LiftLaws.{lifted_is_one}
use Rattle.exam_session.proofs.laws.lifting_gives_one_entry.Goals as goal

pub returns : goal.returns
returns c = lifted_is_one
