use Rattle.exam_text.proofs.WordLaws.{lines_again}
use Rattle.exam_text.proofs.laws.a_text_is_read_as_its_lines.Goals as goal

pub returns : goal.returns
returns c = lines_again
