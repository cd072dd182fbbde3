use Rattle.series_tree.proofs.TextLaws.{text_is_read}
use Rattle.series_tree.proofs.laws.text_is_read.Goals as goal

pub returns : goal.returns
returns c = text_is_read
