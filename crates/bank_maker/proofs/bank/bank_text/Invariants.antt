use Rattle.std.proofs.Common.{◌≡◌, ◌++◌, get_or}
use Rattle.std.specs.List.{flat_map, range_with_len}
use Rattle.bank_maker.specs.Banks.{header, item_text, no_item}
use Rattle.bank_maker.proofs.bank.bank_text.Given as goal

abbrev pub invariant-loop-i : goal.invariant-loop-i
invariant-loop-i l = l.out.items ≡ header ++ flat_map (λ i. item_text i (get_or l.items i no_item)) (range_with_len 0 l.i)
