use Rattle.history_model.proofs.ListLaws.{none_open_of_list}
use Rattle.history_model.proofs.laws.none_open_of_list.Goals as goal

pub returns : goal.returns
returns c = none_open_of_list
