use Rattle.history_model.proofs.JudgingLaws.{may_is_legal}
use Rattle.history_model.proofs.laws.may_is_legal.Goals as goal

pub returns : goal.returns
returns c = may_is_legal
