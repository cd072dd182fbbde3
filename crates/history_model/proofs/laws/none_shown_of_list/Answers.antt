use Rattle.history_model.proofs.ListLaws.{none_shown_of_list}
use Rattle.history_model.proofs.laws.none_shown_of_list.Goals as goal

pub returns : goal.returns
returns c = none_shown_of_list
