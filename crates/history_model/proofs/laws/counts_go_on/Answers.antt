use Rattle.history_model.proofs.CountLaws.{counts_go_on}
use Rattle.history_model.proofs.laws.counts_go_on.Goals as goal

pub returns : goal.returns
returns c = counts_go_on
