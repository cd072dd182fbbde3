use Rattle.std.proofs.Common.{rules}
use Rattle.exam_program.specs.Texts.{objective_line}
use Rattle.exam_program.proofs.tree_texts.objective_line.Goals as goal

pub returns : goal.returns
unfolding objective_line
returns c = search rules
