use Rattle.series_tree.proofs.TreeLaws.{one_spelling}
use Rattle.series_tree.proofs.laws.one_spelling.Goals as goal

pub returns : goal.returns
returns c = one_spelling
