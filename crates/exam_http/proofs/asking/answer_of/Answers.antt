use Rattle.std.proofs.Common.{rules}
use Rattle.exam_http.specs.Asks.{answer_of}
use Rattle.exam_http.proofs.asking.answer_of.Goals as goal

pub returns-in-Err-number_member : goal.returns-in-Err-number_member
unfolding answer_of
returns-in-Err-number_member c = search rules
