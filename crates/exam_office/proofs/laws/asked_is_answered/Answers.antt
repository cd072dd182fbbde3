use Rattle.exam_office.proofs.CompletenessLaws.{asked_is_answered}
use Rattle.exam_office.proofs.laws.asked_is_answered.Goals as goal

pub returns : goal.returns
returns g c = asked_is_answered _
