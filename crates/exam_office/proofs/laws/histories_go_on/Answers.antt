use Rattle.exam_office.proofs.Allowing.{histories_go_on}
use Rattle.exam_office.proofs.laws.histories_go_on.Goals as goal

pub returns : goal.returns
returns c = histories_go_on
