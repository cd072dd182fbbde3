use Rattle.exam_program.proofs.TreeTexts.{printed_tree_is_read_back}
use Rattle.exam_program.proofs.laws.a_printed_tree_is_read_back.Goals as goal

pub returns : goal.returns
returns c = printed_tree_is_read_back
