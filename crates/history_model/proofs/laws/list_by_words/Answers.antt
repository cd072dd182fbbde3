use Rattle.history_model.proofs.RequestLists.{list_by_words}
use Rattle.history_model.proofs.laws.list_by_words.Goals as goal

pub returns : goal.returns
returns c = list_by_words
