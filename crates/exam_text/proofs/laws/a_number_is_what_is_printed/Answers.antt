use Rattle.exam_text.proofs.Numerals.{number_is, number_again}
use Rattle.exam_text.proofs.laws.a_number_is_what_is_printed.Goals as goal

pub returns-clause-read : goal.returns-clause-read
returns-clause-read c most n text = number_is most text n

pub returns-clause-printed : goal.returns-clause-printed
returns-clause-printed c = number_again
