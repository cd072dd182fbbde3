use Rattle.exam_text.proofs.WordLaws.{words_again}
use Rattle.exam_text.proofs.laws.a_line_is_read_as_its_words.Goals as goal

pub returns : goal.returns
returns c = words_again
