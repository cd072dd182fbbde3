use Rattle.std.proofs.Common.{refl}
use Rattle.spec_reader.specs.Plans.{plan_said}
use Rattle.spec_reader.proofs.DraftLaws.{drafted_again}
use Rattle.spec_reader.proofs.laws.canonical_lines_say_the_plan.Goals as goal

pub returns : goal.returns
returns c = λ plan. drafted_again (plan_said plan) plan.rows refl
