use Rattle.std.proofs.Common.{arith}
use Rattle.std.proofs.lemmas.Grind.{common_steps}
use Rattle.bank_reader.specs.Reading.{item_at}
use Rattle.bank_reader.proofs.item.item_in.Goals as goal

pub returns : goal.returns
unfolding item_at
returns c = grind (arith, common_steps)

pub returns-in-Some : goal.returns-in-Some
unfolding item_at
returns-in-Some c = grind (arith, common_steps)

pub returns-in_err-categories : goal.returns-in_err-categories
unfolding item_at
returns-in_err-categories c = grind (arith, common_steps)

pub returns-in_err-info : goal.returns-in_err-info
unfolding item_at
returns-in_err-info c = grind (arith, common_steps)

pub returns-in_err-loglik : goal.returns-in_err-loglik
unfolding item_at
returns-in_err-loglik c = grind (arith, common_steps)

pub returns-in_err-number_in : goal.returns-in_err-number_in
unfolding item_at
returns-in_err-number_in c = grind (arith, common_steps)

pub returns-in_err-quantities : goal.returns-in_err-quantities
unfolding item_at
returns-in_err-quantities c = grind (arith, common_steps)

pub returns-in_err-stimulus : goal.returns-in_err-stimulus
unfolding item_at
returns-in_err-stimulus c = grind (arith, common_steps)

pub returns-then-branch-rec : goal.returns-then-branch-rec
unfolding item_at
returns-then-branch-rec c = grind (arith, common_steps)

pub returns-then-len-first : goal.returns-then-len-first
unfolding item_at
returns-then-len-first c = grind (arith, common_steps)
