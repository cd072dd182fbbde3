use Rattle.exam_program.proofs.TreeTexts.{one_tree_of_text}
use Rattle.exam_program.proofs.laws.one_tree_of_a_text.Goals as goal

pub returns : goal.returns
returns c = one_tree_of_text
