use Rattle.exam_text.proofs.RunLaws.{run_is, run_again}
use Rattle.exam_text.proofs.laws.a_run_is_what_is_printed.Goals as goal

pub returns-clause-read : goal.returns-clause-read
returns-clause-read c r text = run_is text r

pub returns-clause-printed : goal.returns-clause-printed
returns-clause-printed c = run_again
