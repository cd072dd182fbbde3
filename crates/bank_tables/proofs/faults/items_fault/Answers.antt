use Rattle.std.proofs.Common.{◌≡◌, ◌<◌, ◌∙◌, get_or, length, ap, sym, subst, List, ℕ}
use Rattle.std.proofs.lemmas.List.{get_or_read}
use Rattle.exam_text.proofs.Firsts.{found_at}
use Rattle.bank_tables.specs.Tables.{Item, no_item, size, item}
use Rattle.bank_tables.specs.Faults.{item_fault}
use Rattle.bank_tables.proofs.faults.items_fault.Goals as goal

pub returns-in-Some : goal.returns-in-Some
returns-in-Some c =
    let rows = c.args.rows.now in
    let i : ℕ = c.loop-i.i in
    let row : Item = c.index-items-i.result in
    let lt : i < size rows = subst (λ (xs : List Item). i < length xs) c.as_slice-items.ensures c.loop-i-test.true in
    let read : row ≡ item rows i = get_or_read rows.items i row lt (c.index-items-i.is ∙ ap (λ (xs : List Item). get_or xs i row) c.as_slice-items.ensures) no_item in
    sym (found_at (size rows) i (λ i. item_fault rows.grid rows.quantities i (item rows i)) c.in-Some.fault c.loop-i.invariant (ap (λ (r : Item). item_fault rows.grid rows.quantities i r) (sym read) ∙ sym c.item_fault.ensures ∙ c.in-Some.is) lt)
