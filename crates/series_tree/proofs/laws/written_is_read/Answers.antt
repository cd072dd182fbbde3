use Rattle.series_tree.proofs.TreeLaws.{written_is_read}
use Rattle.series_tree.proofs.laws.written_is_read.Goals as goal

pub returns : goal.returns
returns c = written_is_read
