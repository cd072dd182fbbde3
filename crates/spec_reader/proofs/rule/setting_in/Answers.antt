use Rattle.std.proofs.Common.{arith}
use Rattle.std.proofs.lemmas.Grind.{common_steps}
use Rattle.spec_reader.specs.Rules.{setting_said}
use Rattle.spec_reader.proofs.rule.setting_in.Goals as goal

pub returns-in_err-den-in-Rate : goal.returns-in_err-den-in-Rate
unfolding setting_said
returns-in_err-den-in-Rate c = grind (arith, common_steps)

pub returns-in_err-key_in-in-Key : goal.returns-in_err-key_in-in-Key
unfolding setting_said
returns-in_err-key_in-in-Key c = grind (arith, common_steps)

pub returns-in_err-num-in-Rate : goal.returns-in_err-num-in-Rate
unfolding setting_said
returns-in_err-num-in-Rate c = grind (arith, common_steps)

pub returns-in_err-number_in-in-BaseBudget : goal.returns-in_err-number_in-in-BaseBudget
unfolding setting_said
returns-in_err-number_in-in-BaseBudget c = grind (arith, common_steps)

pub returns-in_err-number_in-in-Budget : goal.returns-in_err-number_in-in-Budget
unfolding setting_said
returns-in_err-number_in-in-Budget c = grind (arith, common_steps)

pub returns-in_err-number_in-in-Journal : goal.returns-in_err-number_in-in-Journal
unfolding setting_said
returns-in_err-number_in-in-Journal c = grind (arith, common_steps)

pub returns-in_err-number_in-in-Length : goal.returns-in_err-number_in-in-Length
unfolding setting_said
returns-in_err-number_in-in-Length c = grind (arith, common_steps)

pub returns-in_err-number_in-in-Sessions : goal.returns-in_err-number_in-in-Sessions
unfolding setting_said
returns-in_err-number_in-in-Sessions c = grind (arith, common_steps)

pub returns-in_err-set_in-in-Base : goal.returns-in_err-set_in-in-Base
unfolding setting_said
returns-in_err-set_in-in-Base c = grind (arith, common_steps)

pub returns-in_err-signeds_in-in-Prior : goal.returns-in_err-signeds_in-in-Prior
unfolding setting_said
returns-in_err-signeds_in-in-Prior c = grind (arith, common_steps)

pub returns-in_err-points_in-in-Bands : goal.returns-in_err-points_in-in-Bands
unfolding setting_said
returns-in_err-points_in-in-Bands c = grind (arith, common_steps)
