use Rattle.exam_text.proofs.Numerals.{signed_is, signed_again}
use Rattle.exam_text.proofs.laws.a_signed_number_is_what_is_printed.Goals as goal

pub returns-clause-read : goal.returns-clause-read
returns-clause-read c most z text = signed_is most text z

pub returns-clause-printed : goal.returns-clause-printed
returns-clause-printed c = signed_again
