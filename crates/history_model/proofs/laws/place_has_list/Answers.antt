use Rattle.history_model.proofs.RequestLists.{place_has_list}
use Rattle.history_model.proofs.laws.place_has_list.Goals as goal

pub returns : goal.returns
returns c = place_has_list
