use Rattle.std.proofs.Common.{◌≡◌, ℕ, List, Some, map, take}
use Rattle.bank_tables.specs.Items.{has}
use Rattle.serde_json.specs.View.{view, items_of}
use Rattle.exam_http.specs.Asks.{is_among, numbers_in}
use Rattle.exam_http.proofs.asking.items_in.Given as goal

-- the elements so far are these numbers, and the set is that of them
abbrev pub invariant-loop-element : goal.invariant-loop-element
invariant-loop-element l =
    (items : List ℕ) × (numbers_in 511 (items_of (take l.element-index (map view l.elements))) ≡ Some items)
    × ((i : ℕ) → has l.set i ≡ is_among items i)
