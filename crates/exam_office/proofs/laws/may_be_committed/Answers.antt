use Rattle.exam_office.proofs.Committed.{may_be_committed}
use Rattle.exam_office.proofs.laws.may_be_committed.Goals as goal

pub returns : goal.returns
returns c = may_be_committed
