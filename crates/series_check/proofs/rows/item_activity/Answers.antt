use Rattle.std.proofs.Common.{arith}
use Rattle.series_check.proofs.rows.item_activity.Goals as goal

pub returns-then-has-clause-few : goal.returns-then-has-clause-few
returns-then-has-clause-few c = omega (arith, c.quantity.ensures, c.requires.bank.quantity_high c.args.item c.in-Quantity.which)
