use Rattle.history_model.proofs.ListLaws.{list_has_form}
use Rattle.history_model.proofs.laws.list_has_form.Goals as goal

pub returns : goal.returns
returns c = list_has_form
