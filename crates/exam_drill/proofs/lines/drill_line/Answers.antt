use Rattle.std.proofs.Common.{rules}
use Rattle.exam_drill.specs.Texts.{drill_text}
use Rattle.exam_drill.proofs.lines.drill_line.Goals as goal

pub returns : goal.returns
unfolding drill_text
returns c = search rules
