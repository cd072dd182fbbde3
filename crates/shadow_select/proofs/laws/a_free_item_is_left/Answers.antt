use Rattle.shadow_select.proofs.ProblemLaws.{free_item_is_left}
use Rattle.shadow_select.proofs.laws.a_free_item_is_left.Goals as goal

pub returns : goal.returns
returns c = free_item_is_left
