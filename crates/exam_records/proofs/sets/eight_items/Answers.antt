use Rattle.std.proofs.Common.{sym, ◌∙◌, arith}
use Rattle.bank_tables.specs.Items.{has}
use Rattle.exam_records.proofs.SetLaws.{number_none, bit_fits, bit_more, no_bit_more}
use Rattle.exam_records.proofs.sets.eight_items.Goals as goal
use Rattle.exam_records.proofs.sets.eight_items.Goals.{then-has, else-has}

pub loop-place-init : goal.loop-place-init
loop-place-init c = sym (number_none (has c.args.set.now) c.args.first)

pub overflow_add-bits : goal.overflow_add-bits
overflow_add-bits c = omega (arith, bit_fits c.loop-place.place (has c.args.set.now) c.args.first c.loop-place.bits c.loop-place-test.true c.loop-place.invariant)

pub loop-place-preserved : goal.loop-place-preserved
loop-place-preserved c =
    elim c.if-has.branch [
      | then-has w ↦ w.bits-is ∙ bit_more c.loop-place.place (has c.args.set.now) c.args.first c.loop-place.bits c.loop-place-test.true c.loop-place.invariant (sym w.if-has.ensures)
      | else-has w ↦ w.bits-is ∙ no_bit_more c.loop-place.place (has c.args.set.now) c.args.first c.loop-place.bits c.loop-place.invariant (sym w.if-has.ensures)
    ]
