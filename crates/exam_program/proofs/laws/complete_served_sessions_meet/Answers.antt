use Rattle.exam_program.proofs.SessionLaws.{complete_served_sessions_meet}
use Rattle.exam_program.proofs.laws.complete_served_sessions_meet.Goals as goal

pub returns : goal.returns
returns c = complete_served_sessions_meet
