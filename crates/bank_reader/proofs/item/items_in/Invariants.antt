use Rattle.std.proofs.Common.{◌≡◌, ◌+◌, [], get_or, map, Ok}
use Rattle.csv.specs.Records.{fields_of}
use Rattle.exam_text.specs.First.{each_below}
use Rattle.bank_reader.specs.Reading.{item_at}
use Rattle.bank_reader.proofs.item.items_in.Given as goal

abbrev pub invariant-loop-i : goal.invariant-loop-i
invariant-loop-i l = each_below l.i (λ i. item_at l.shape (i + 1) (get_or (map fields_of l.rows) (i + 1) [])) ≡ Ok (l.items.items)
