use Rattle.std.proofs.Common.{refl}
use Rattle.bank_maker.specs.Draws.{state_after}
use Rattle.bank_maker.specs.Items.{items}
use Rattle.bank_maker.specs.Scripts.{acts, group_acts, requests_from}
use Rattle.bank_maker.proofs.laws.drill_of_seven.Goals as goal

pub returns-clause-draws : goal.returns-clause-draws
unfolding state_after
returns-clause-draws c = refl

pub returns-clause-first_item : goal.returns-clause-first_item
unfolding state_after
returns-clause-first_item c = refl

pub returns-clause-last_item : goal.returns-clause-last_item
unfolding state_after
returns-clause-last_item c = refl

pub returns-clause-base : goal.returns-clause-base
unfolding state_after items
returns-clause-base c = refl

pub returns-clause-script : goal.returns-clause-script
unfolding state_after acts group_acts requests_from
returns-clause-script c = refl
