use Rattle.history_model.proofs.ListLaws.{list_stays}
use Rattle.history_model.proofs.laws.list_stays.Goals as goal

pub returns : goal.returns
returns c = list_stays
