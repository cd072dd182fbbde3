use Rattle.std.proofs.Common.{◌≤◌, ◌/◌, ◌%◌, length, get_or, arith, refl}
use Rattle.std.proofs.lemmas.Nat.Bits.{shr_and_one, bit_at-zero}
use Rattle.std.proofs.lemmas.List.{get_or_past}
use Rattle.bank_tables.specs.Items.{has}
use Rattle.bank_tables.proofs.item_set.ItemSet.has.Goals as goal

pub returns-then-item-lt-ITEMS : goal.returns-then-item-lt-ITEMS
unfolding has
returns-then-item-lt-ITEMS c = rw (← c.self.view_is, shr_and_one (get_or c.self.inside.words (c.args.item / 64) 0) (c.args.item % 64)) refl

pub returns-else-item-lt-ITEMS : goal.returns-else-item-lt-ITEMS
unfolding has
returns-else-item-lt-ITEMS c =
    let past : length c.self.inside.words ≤ c.args.item / 64 = omega (arith, c.self.invariant) in
    rw (← c.self.view_is, get_or_past c.self.inside.words (c.args.item / 64) 0 past, bit_at-zero (c.args.item % 64)) refl
