use Rattle.std.proofs.Common.{◌<◌, ◌/◌, length, arith}
use Rattle.bank_tables.proofs.Words.{has_clear}
use Rattle.bank_tables.proofs.item_set.ItemSet.without.Goals as goal

pub returns : goal.returns
returns c i =
    let within : c.args.item / 64 < length c.self.inside.words = omega (arith, c.self.invariant, c.requires) in
    rw (← c.self.view_is) (has_clear c.self.inside.words c.args.item i within)
