use Rattle.history_model.proofs.CountLaws.{visited_goes_on}
use Rattle.history_model.proofs.laws.visited_goes_on.Goals as goal

pub returns : goal.returns
returns c = visited_goes_on
