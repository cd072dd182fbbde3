use Rattle.std.proofs.Common.{arith}
use Rattle.bank_maker.specs.Draws.{state_after}
use Rattle.bank_maker.specs.Items.{draws_of_items}
use Rattle.bank_maker.proofs.ReadableScripts.{is_script, is_short}
use Rattle.bank_maker.proofs.laws.a_script_is_read.Goals as goal

pub returns-clause-script : goal.returns-clause-script
returns-clause-script c number sessions few = is_script (state_after number draws_of_items) sessions few

pub returns-clause-short : goal.returns-clause-short
returns-clause-short c number sessions few = omega (arith, is_short (state_after number draws_of_items) sessions few)
