use Rattle.bank_tables.proofs.Bits.{same_sets}
use Rattle.bank_tables.proofs.laws.a_set_is_its_members.Goals as goal

pub returns : goal.returns
returns c = same_sets
