use Rattle.history_model.proofs.ListLaws.{list_is_legal}
use Rattle.history_model.proofs.laws.list_is_legal.Goals as goal

pub returns : goal.returns
returns c = list_is_legal
