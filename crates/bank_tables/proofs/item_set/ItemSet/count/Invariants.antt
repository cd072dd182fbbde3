use Rattle.std.proofs.Common.{◌≡◌, ◌*◌, true}
use Rattle.bank_tables.specs.Items.{has}
use Rattle.bank_tables.specs.Sums.{count_in}
use Rattle.bank_tables.proofs.item_set.ItemSet.count.Given as goal

abbrev pub invariant-loop-k : goal.invariant-loop-k
invariant-loop-k l = l.total ≡ count_in (64 * l.k) (has l.self) (λ _. true)
