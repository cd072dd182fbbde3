use Rattle.exam_office.proofs.MomentsLaws.{each_moment_stands}
use Rattle.exam_office.proofs.laws.each_moment_stands.Goals as goal

pub returns : goal.returns
returns c = each_moment_stands
