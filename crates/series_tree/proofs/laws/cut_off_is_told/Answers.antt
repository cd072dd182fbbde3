use Rattle.series_tree.proofs.CutLaws.{cut_off_is_told}
use Rattle.series_tree.proofs.laws.cut_off_is_told.Goals as goal

pub returns : goal.returns
returns c = cut_off_is_told
