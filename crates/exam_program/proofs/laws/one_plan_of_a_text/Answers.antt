use Rattle.exam_program.proofs.OnePlan.{one_plan_in}
use Rattle.exam_program.proofs.laws.one_plan_of_a_text.Goals as goal

pub returns : goal.returns
returns c = one_plan_in
