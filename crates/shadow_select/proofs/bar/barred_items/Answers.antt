use Rattle.std.proofs.Common.{◌≡◌, ◌∙◌, sym, true, false}
use Rattle.bank_tables.specs.Items.{has}
use Rattle.serving_model.specs.Seats.{is_barred, is_unavailable_in}
use Rattle.shadow_select.proofs.ShownLaws.{last_is_item, grown, not_grown}
use Rattle.shadow_select.proofs.bar.barred_items.Goals as goal
use Rattle.shadow_select.proofs.bar.barred_items.Goals.{then-is_barred, else-is_barred}

pub last_stimulus-last-requires : goal.last_stimulus-last-requires
last_stimulus-last-requires c = last_is_item c.args.bank.now c.args.seat.now c.last_shown.result c.last_shown.ensures c.requires.items

pub loop-i-preserved : goal.loop-i-preserved
loop-i-preserved c = λ j.
    let p = is_barred c.args.bank.now c.args.seat.now (is_unavailable_in c.args.seat.now c.args.band) in
    let i = c.loop-i.i in
    elim c.if-is_barred.branch [
      | then-is_barred w ↦
          let passes : p i ≡ true = sym c.is_barred.ensures ∙ w.if-is_barred.true in
          rw w.barred-is (w.with-barred.ensures j ∙ grown p i j (has c.loop-i.barred j) passes (c.loop-i.invariant j))
      | else-is_barred w ↦
          let fails : p i ≡ false = sym c.is_barred.ensures ∙ w.if-is_barred.false in
          rw w.barred-is (c.loop-i.invariant j ∙ not_grown p i j fails)
    ]
