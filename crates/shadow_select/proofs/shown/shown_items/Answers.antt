use Rattle.std.proofs.Common.{◌<◌, ◌∙◌, sym, ap, ◌||◌, ◌==◌, take, Bool, arith}
use Rattle.std.specs.List.{list_any}
use Rattle.bank_tables.specs.Tables.{size}
use Rattle.shadow_select.proofs.ShownLaws.{found_at, any_more, swapped}
use Rattle.shadow_select.proofs.shown.shown_items.Goals as goal

pub with-items-requires : goal.with-items-requires
with-items-requires c =
    let item = c.number_at.result in
    let within : item < size c.args.bank.now = c.requires item (found_at c.args.seat.now.shown c.loop-k.k item c.number_at.ensures) in
    omega (arith, within, c.items.ensures.bank.few)

pub loop-k-preserved : goal.loop-k-preserved
loop-k-preserved c = λ i.
    let xs = c.args.seat.now.shown in
    let x = c.number_at.result in
    c.with-items.ensures i
    ∙ ap (λ (b : Bool). (i == x) || b) (c.loop-k.invariant i)
    ∙ swapped i x (list_any (λ item. item == i) (take c.loop-k.k xs))
    ∙ sym (any_more (λ item. item == i) xs c.loop-k.k x c.number_at.ensures)
