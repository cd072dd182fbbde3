use Rattle.spec_reader.proofs.RunsLaws.{runs_items}
use Rattle.spec_reader.proofs.laws.a_set_is_its_maximal_runs.Goals as goal

pub returns : goal.returns
returns c = runs_items
