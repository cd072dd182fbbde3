use Rattle.exam_office.proofs.MomentsLaws.{settled_moment_stands}
use Rattle.exam_office.proofs.laws.settled_moment_stands.Goals as goal

pub returns : goal.returns
returns c = settled_moment_stands
