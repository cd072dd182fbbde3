use Rattle.series_tree.proofs.TreeLaws.{no_spelling_begins_another}
use Rattle.series_tree.proofs.laws.no_spelling_begins_another.Goals as goal

pub returns : goal.returns
returns c = no_spelling_begins_another
