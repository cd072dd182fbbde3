use Rattle.exam_program.proofs.LinkLaws.{any_leaves}
use Rattle.exam_program.proofs.program.run.Goals as goal

pub returns-clause-answers : goal.returns-clause-answers
returns-clause-answers g c = λ told. rw (← c.bytes_of-token.ensures) (c.left_of-left.ensures.answers told)

pub returns-clause-cause : goal.returns-clause-cause
returns-clause-cause g c = c.left_of-left.ensures.cause

pub returns-clause-journal : goal.returns-clause-journal
returns-clause-journal g c = λ told. rw (← c.bytes_of-token.ensures) (any_leaves _ _ _ _ _ _ _ _ _ _ (c.left_of-left.ensures.answers told))

pub left_of-left-requires-clause-fair : goal.left_of-left-requires-clause-fair
left_of-left-requires-clause-fair g c κs within = λ office opened is. rw c.bytes_of-token.ensures (c.requires.fair office opened is)
