use Rattle.std.proofs.Common.{◌/◌, refl}
use Rattle.bank_tables.specs.Items.{has}
use Rattle.bank_tables.proofs.Bits.{zero_words}
use Rattle.bank_tables.proofs.item_set.ItemSet.empty.Goals as goal
use Rattle.std.proofs.lemmas.Nat.Bits.{bit_at-zero}
use Rattle.std.proofs.Common.{◌%◌}

pub returns : goal.returns
unfolding has
returns c i = rw (zero_words (i / 64), bit_at-zero (i % 64)) refl
